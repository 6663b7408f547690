use Rattle.std.proofs.Common.{◌∙◌, ap, refl}
use Rattle.cv_system.specs.Names.{folder_of}
use Rattle.cv_system.specs.Calls.{Removed}
use Rattle.cv_system.proofs.Laws.{tried_one, one_fails}
use Rattle.cv_folder.proofs.Notes.{notes_wider}
use Rattle.cv_folder.proofs.folder_vault.FolderVault.remove_found.Goals as goal

pub returns-clause-calls : goal.returns-clause-calls
returns-clause-calls g c = rw c.as_str-2.ensures.path at (tried_one (Removed c.as_str-2.result.now) c.remove_file.result _ _ c.remove_file.ensures)

pub returns-clause-noted : goal.returns-clause-noted
returns-clause-noted g c = rw (c.folder_of-folder.ensures ∙ ap folder_of c.as_str.ensures.path) at c.note_or_all.ensures.noted

pub returns-clause-adds : goal.returns-clause-adds
returns-clause-adds g c =
    let above = c.folder_of-folder.ensures ∙ ap folder_of c.as_str.ensures.path in
    (refl, c.note_or_all.ensures.kept, notes_wider _ _ _ _ (λ folder is. is ∙ above) c.note_or_all.ensures.only, c.note_or_all.ensures.unsettled, refl)

pub returns-clause-why : goal.returns-clause-why
returns-clause-why g c = one_fails (Removed c.as_str-2.result.now) (λ out. refl) (λ out look. look) c.remove_file.result _ _ c.remove_file.ensures
