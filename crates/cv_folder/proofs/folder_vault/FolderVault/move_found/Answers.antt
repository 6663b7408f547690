use Rattle.std.proofs.lemmas.Result.{err_from_is_err_and, IfErr-weaker}
use Rattle.std.proofs.Common.{◌∙◌, ◌+◌, ap, inl, inr, length, refl, string_bytes, sym}
use Rattle.cv_system.specs.Names.{folder_of, path_of}
use Rattle.cv_system.specs.Steps.{Still}
use Rattle.cv_folder.proofs.Filing.{moves_no_more, moves_on, moves_on_way}
use Rattle.cv_folder.proofs.Notes.{stays_noted}
use Rattle.cv_folder.proofs.Acts.{on_ok}
use Rattle.cv_folder.proofs.Preparing.{above_at}
use Rattle.cv_system.proofs.Laws.{no_step, steps_then}
use Rattle.cv_folder.proofs.Growing.{prepares_grow}
use Rattle.cv_folder.proofs.Reasons.{moves_no_way, moves_unserved, unset_so, way_fails}
use Rattle.cv_folder.proofs.folder_vault.FolderVault.move_found.Goals as goal

pub returns-clause-left : goal.returns-clause-left
returns-clause-left g c =
    let noted_at = c.folder_of.ensures ∙ ap folder_of (c.as_str-2.ensures.value ∙ c.in_ok-source.ensures.ok ∙ c.as_str.ensures.path) in
    on_ok c.move_file.result (c.in_ok-make_folders.ensures.kept _ (stays_noted c.note.new.notes c.note.new.notes _ _ refl noted_at c.in_ok-note.ensures.noted))

pub returns-in_err-source-clause-calls : goal.returns-in_err-source-clause-calls
returns-in_err-source-clause-calls g c =
    let p = err_from_is_err_and c.from_residual.result c.from_residual.ensures.1 in
    rw p.1 (moves_no_more (string_bytes c.args.self.now.root) c.args.to.now c.args.found.now _ _ _ _ refl)

pub returns-in_err-set_path-clause-calls : goal.returns-in_err-set_path-clause-calls
returns-in_err-set_path-clause-calls g c =
    let p = err_from_is_err_and c.from_residual-in_err-set_path.result c.from_residual-in_err-set_path.ensures.1 in
    rw p.1 (moves_no_more (string_bytes c.args.self.now.root) c.args.to.now c.args.found.now _ _ _ _ c.set_path.ensures.calls)

pub returns-in_err-note-clause-calls : goal.returns-in_err-note-clause-calls
returns-in_err-note-clause-calls g c =
    let p = err_from_is_err_and c.from_residual-in_err-note.result c.from_residual-in_err-note.ensures.1 in
    rw p.1 (moves_no_more (string_bytes c.args.self.now.root) c.args.to.now c.args.found.now _ _ _ _ c.set_path.ensures.calls)

pub returns-in_err-make_folders-clause-calls : goal.returns-in_err-make_folders-clause-calls
returns-in_err-make_folders-clause-calls g c =
    let p = err_from_is_err_and c.from_residual-in_err-make_folders.result c.from_residual-in_err-make_folders.ensures.1 in
    rw p.1 (moves_on_way (string_bytes c.args.self.now.root) c.args.to.now c.args.found.now _ _ c.args.self.now.path c.set_path.new.self.path c.names_from-from.result c.in_ok-set_path.ensures.path
    (c.names_from-from.ensures ∙ ap (λ root. length (string_bytes root) + 1) c.set_path.ensures.stays.0) _ _ c.set_path.ensures.calls (rw c.as_str-3.ensures.path at c.make_folders.ensures.calls) (rw c.as_str-3.ensures.path at c.in_err-make_folders.ensures.stops))

pub returns-clause-calls : goal.returns-clause-calls
returns-clause-calls g c =
    let noted_at = c.folder_of.ensures ∙ ap folder_of (c.as_str-2.ensures.value ∙ c.in_ok-source.ensures.ok ∙ c.as_str.ensures.path) in
    moves_on (string_bytes c.args.self.now.root) c.args.to.now c.args.found.now _ _ c.args.self.now.path c.set_path.new.self.path c.names_from-from.result c.in_ok-set_path.ensures.path
    (c.names_from-from.ensures ∙ ap (λ root. length (string_bytes root) + 1) c.set_path.ensures.stays.0) _ _ c.set_path.ensures.calls (rw c.as_str-3.ensures.path at c.make_folders.ensures.calls)
    _ _ _ (c.as_str-4.ensures.value ∙ c.in_ok-source.ensures.ok ∙ c.as_str.ensures.path) (rw c.as_str-3.ensures.path at c.in_ok-make_folders.ensures.leads, rw c.as_str-3.ensures.path at c.in_ok-make_folders.ensures.noted) (c.in_ok-make_folders.ensures.kept _ (stays_noted c.note.new.notes c.note.new.notes _ _ refl noted_at c.in_ok-note.ensures.noted)) (rw c.as_str-5.ensures.path at c.move_file.ensures.moves)

pub returns-in_err-source-clause-adds : goal.returns-in_err-source-clause-adds
returns-in_err-source-clause-adds g c =
    (refl, λ folder noted. noted, λ folder noted. inl noted, λ is. is, refl)

pub returns-in_err-make_folders-clause-adds : goal.returns-in_err-make_folders-clause-adds
returns-in_err-make_folders-clause-adds g c =
    let noted_at = c.folder_of.ensures ∙ ap folder_of (c.as_str-2.ensures.value ∙ c.in_ok-source.ensures.ok ∙ c.as_str.ensures.path) in
    let from = c.names_from-from.ensures ∙ ap (λ root. length (string_bytes root) + 1) c.set_path.ensures.stays.0 in
    let only = rw c.as_str-3.ensures.path at c.make_folders.ensures.only in (
      c.set_path.ensures.stays.0,
      λ folder noted. c.make_folders.ensures.kept folder (c.note.ensures.kept folder (stays_noted c.args.self.now.folders c.set_path.new.self.folders folder folder c.set_path.ensures.stays.1 refl noted)),
      λ folder noted. elim (only folder noted) [
        | inl was ↦ elim (c.note.ensures.only folder was) [
          | inl before ↦ inl (stays_noted c.set_path.new.self.folders c.args.self.now.folders folder folder (sym c.set_path.ensures.stays.1) refl before)
          | inr is ↦ inr (inl (is ∙ noted_at))
        ]
        | inr above ↦ inr (inr (above_at _ (length (string_bytes c.args.self.now.root) + 1) _ (path_of (string_bytes c.args.self.now.root) c.args.to.now) folder from c.in_ok-set_path.ensures.path above))
      ],
      c.set_path.ensures.stays.2,
      c.set_path.ensures.stays.3,
    )

pub returns-clause-adds : goal.returns-clause-adds
returns-clause-adds g c =
    let noted_at = c.folder_of.ensures ∙ ap folder_of (c.as_str-2.ensures.value ∙ c.in_ok-source.ensures.ok ∙ c.as_str.ensures.path) in
    let from = c.names_from-from.ensures ∙ ap (λ root. length (string_bytes root) + 1) c.set_path.ensures.stays.0 in
    let only = rw c.as_str-3.ensures.path at c.make_folders.ensures.only in (
      c.set_path.ensures.stays.0,
      λ folder noted. c.make_folders.ensures.kept folder (c.note.ensures.kept folder (stays_noted c.args.self.now.folders c.set_path.new.self.folders folder folder c.set_path.ensures.stays.1 refl noted)),
      λ folder noted. elim (only folder noted) [
        | inl was ↦ elim (c.note.ensures.only folder was) [
          | inl before ↦ inl (stays_noted c.set_path.new.self.folders c.args.self.now.folders folder folder (sym c.set_path.ensures.stays.1) refl before)
          | inr is ↦ inr (inl (is ∙ noted_at))
        ]
        | inr above ↦ inr (inr (above_at _ (length (string_bytes c.args.self.now.root) + 1) _ (path_of (string_bytes c.args.self.now.root) c.args.to.now) folder from c.in_ok-set_path.ensures.path above))
      ],
      c.set_path.ensures.stays.2,
      c.set_path.ensures.stays.3,
    )

pub returns-in_err-source-clause-why : goal.returns-in_err-source-clause-why
returns-in_err-source-clause-why g c =
    let p = err_from_is_err_and c.from_residual.result c.from_residual.ensures.1 in
    rw (p.1, p.2) (inl (c.in_err-source.ensures.memory, Still))

pub returns-in_err-set_path-clause-why : goal.returns-in_err-set_path-clause-why
returns-in_err-set_path-clause-why g c =
    let p = err_from_is_err_and c.from_residual-in_err-set_path.result c.from_residual-in_err-set_path.ensures.1 in
    rw (p.1, p.2) (inr (moves_unserved (string_bytes c.args.self.now.root) c.args.to.now _ _ _ _ c.in_err-set_path.ensures.kind (unset_so _ c.args.to.now _ c.set_path.result c.set_path.ensures.ok _ c.in_err-set_path.was)))

pub returns-in_err-note-clause-why : goal.returns-in_err-note-clause-why
returns-in_err-note-clause-why g c =
    let p = err_from_is_err_and c.from_residual-in_err-note.result c.from_residual-in_err-note.ensures.1 in
    rw (p.1, p.2) (inl (c.in_err-note.ensures.memory, no_step c.set_path.ensures.calls))

pub returns-in_err-make_folders-clause-why : goal.returns-in_err-make_folders-clause-why
returns-in_err-make_folders-clause-why g c =
    let p = err_from_is_err_and c.from_residual-in_err-make_folders.result c.from_residual-in_err-make_folders.ensures.1 in
    rw (p.1, p.2) (elim c.in_err-make_folders.ensures.why [
      | inl memory ↦ inl (memory.0, steps_then (no_step c.set_path.ensures.calls) memory.1)
      | inr fails ↦ inr (moves_no_way (string_bytes c.args.self.now.root) c.args.to.now _ _ _ _ _ (no_step c.set_path.ensures.calls) fails)
    ])

pub returns-clause-why : goal.returns-clause-why
returns-clause-why g c =
    IfErr-weaker c.move_file.result _ _
    (λ error fails. inr (moves_no_way (string_bytes c.args.self.now.root) c.args.to.now _ _ _ _ _ (steps_then (no_step c.set_path.ensures.calls) (prepares_grow _ _ _ _ _ c.make_folders.ensures.calls)) (way_fails _ _ _ fails)))
    c.move_file.ensures.fails
