use Rattle.std.proofs.Common.{◌∙◌, ap, inr, refl, string_bytes, inl, ◌+◌, length}
use Rattle.cv_system.specs.Names.{folder_of}
use Rattle.cv_system.specs.Steps.{Still}
use Rattle.cv_folder.proofs.Holding.{makes_still, makes_then}
use Rattle.cv_folder.proofs.Notes.{stays_noted}
use Rattle.cv_folder.proofs.Notes.{notes_wider}
use Rattle.std.proofs.lemmas.Result.{err_from_is_err_and}
use Rattle.cv_folder.proofs.Reasons.{long_path, make_fails, make_long, make_refused}
use Rattle.cv_folder.proofs.folder_vault.FolderVault.make_root.Goals as goal

pub returns-in-Some-clause-noted : goal.returns-in-Some-clause-noted
returns-in-Some-clause-noted g c =
    inr (stays_noted c.note.new.notes c.set_root.new.self.folders _ _ c.in_ok-set_root.ensures.stays.1 (c.folder_of.ensures ∙ ap folder_of c.as_str.ensures.value) c.in_ok-note.ensures.noted)

pub returns-in_err-note-clause-calls : goal.returns-in_err-note-clause-calls
returns-in_err-note-clause-calls g c = makes_still _ c.args.self.now.hold _ _ c.requires refl

pub returns-in_err-set_root-clause-calls : goal.returns-in_err-set_root-clause-calls
returns-in_err-set_root-clause-calls g c = makes_still _ c.set_root.new.self.hold _ _ (c.set_root.ensures.hold ∙ c.requires) c.set_root.ensures.calls

pub returns-in_err-open-clause-calls : goal.returns-in_err-open-clause-calls
returns-in_err-open-clause-calls g c =
    makes_then _ c.set_root.new.self.hold _ _ _ _ _ (c.set_root.ensures.hold ∙ c.requires) (c.as_str-2.ensures.value ∙ ap string_bytes c.set_root.ensures.stays.0) c.set_root.ensures.calls c.in_err-open.ensures

pub returns-in-Some-clause-calls : goal.returns-in-Some-clause-calls
returns-in-Some-clause-calls g c =
    makes_then _ _ _ _ _ _ _ refl (c.as_str-2.ensures.value ∙ ap string_bytes c.set_root.ensures.stays.0) c.set_root.ensures.calls (rw c.in-Some.is at c.in_ok-open.ensures)

pub returns-in-None-clause-calls : goal.returns-in-None-clause-calls
returns-in-None-clause-calls g c =
    makes_then _ _ _ _ _ _ _ refl (c.as_str-2.ensures.value ∙ ap string_bytes c.set_root.ensures.stays.0) c.set_root.ensures.calls (rw c.in-None.is at c.in_ok-open.ensures)

pub returns-in_err-note-clause-adds : goal.returns-in_err-note-clause-adds
returns-in_err-note-clause-adds g c =
    let above = c.folder_of.ensures ∙ ap folder_of c.as_str.ensures.value in
    (refl, c.note.ensures.kept, notes_wider _ _ _ _ (λ folder is. is ∙ above) c.note.ensures.only, λ is. is, refl)

pub returns-in_err-note-clause-holds : goal.returns-in_err-note-clause-holds
returns-in_err-note-clause-holds g c =
    λ never. absurd (never c.requires)

pub returns-in_err-set_root-clause-holds : goal.returns-in_err-set_root-clause-holds
returns-in_err-set_root-clause-holds g c =
    λ never. absurd (never c.requires)

pub returns-in_err-open-clause-holds : goal.returns-in_err-open-clause-holds
returns-in_err-open-clause-holds g c =
    λ never. absurd (never c.requires)

pub returns-in-Some-clause-holds : goal.returns-in-Some-clause-holds
returns-in-Some-clause-holds g c =
    λ never. absurd (never c.requires)

pub returns-in-None-clause-holds : goal.returns-in-None-clause-holds
returns-in-None-clause-holds g c =
    λ never. absurd (never c.requires)

pub returns-in_err-open-clause-noted : goal.returns-in_err-open-clause-noted
returns-in_err-open-clause-noted g c =
    inr (stays_noted c.note.new.notes c.set_root.new.self.folders _ _ c.in_ok-set_root.ensures.stays.1 (c.folder_of.ensures ∙ ap folder_of c.as_str.ensures.value) c.in_ok-note.ensures.noted)

pub returns-in-None-clause-noted : goal.returns-in-None-clause-noted
returns-in-None-clause-noted g c =
    inr (stays_noted c.note.new.notes c.set_root.new.self.folders _ _ c.in_ok-set_root.ensures.stays.1 (c.folder_of.ensures ∙ ap folder_of c.as_str.ensures.value) c.in_ok-note.ensures.noted)

pub returns-in_err-note-clause-why : goal.returns-in_err-note-clause-why
returns-in_err-note-clause-why g c =
    let p = err_from_is_err_and c.from_residual.result c.from_residual.ensures.1 in
    rw (p.1, p.2) (inl (c.in_err-note.ensures.memory, Still))

pub returns-in_err-set_root-clause-why : goal.returns-in_err-set_root-clause-why
returns-in_err-set_root-clause-why g c =
    let p = err_from_is_err_and c.from_residual-in_err-set_root.result c.from_residual-in_err-set_root.ensures.1 in
    rw (p.1, p.2) (inr (make_long (string_bytes c.args.self.now.root) _ _ _ _ c.in_err-set_root.ensures.kind (long_path (length (string_bytes c.args.self.now.root) + 1) c.set_root.result c.set_root.ensures.ok _ c.in_err-set_root.was)))

pub returns-in_err-open-clause-why : goal.returns-in_err-open-clause-why
returns-in_err-open-clause-why g c =
    let p = err_from_is_err_and c.from_residual-in_err-open.result c.from_residual-in_err-open.ensures.1 in
    rw (p.1, p.2) (inr (make_fails (string_bytes c.args.self.now.root) _ _ _ _ _ _ (c.as_str-2.ensures.value ∙ ap string_bytes c.set_root.ensures.stays.0) c.set_root.ensures.calls c.in_err-open.ensures))

pub returns-in-None-clause-why : goal.returns-in-None-clause-why
returns-in-None-clause-why g c = inr (make_refused (string_bytes c.args.self.now.root) _ _ _ _ c.refused.ensures refl)
