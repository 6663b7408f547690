use Rattle.std.proofs.lemmas.Result.{err_from_is_err_and, IfErr-weaker}
use Rattle.std.proofs.Common.{◌∙◌, ◌+◌, ◌++◌, List, ℕ, ap, codes, inl, inr, length, refl, string_bytes, sym}
use Rattle.std.specs.Prelude.{IsTrue}
use Rattle.cv_system.specs.Names.{folder_of, is_name, path_of}
use Rattle.cv_folder.proofs.Filing.{begins_on, writes_no_more, writes_on_way, writes_so}
use Rattle.cv_folder.proofs.Naming.{made_so}
use Rattle.cv_folder.proofs.Notes.{stays_noted}
use Rattle.cv_folder.proofs.Preparing.{above_at}
use Rattle.cv_system.proofs.Laws.{no_step, steps_then}
use Rattle.cv_folder.proofs.Growing.{begins_grow, prepares_grow}
use Rattle.cv_folder.proofs.Well.{begins_well}
use Rattle.cv_folder.proofs.Reasons.{long_path, next_long, write_long, write_no_way, write_not_put}
use Rattle.cv_folder.proofs.folder_vault.FolderVault.write_now.Goals as goal

pub returns-in_err-begin_write-clause-calls : goal.returns-in_err-begin_write-clause-calls
returns-in_err-begin_write-clause-calls g c =
    let p = err_from_is_err_and c.from_residual.result c.from_residual.ensures.1 in
    rw p.1 (writes_no_more (string_bytes c.args.self.now.root) c.args.name.now c.args.bytes.now c.args.self.now.hold c.begin_write.new.self.hold _ _ _ _ c.begin_write.ensures.begins _ refl)

pub returns-in_err-set_next-clause-calls : goal.returns-in_err-set_next-clause-calls
returns-in_err-set_next-clause-calls g c =
    let p = err_from_is_err_and c.from_residual-in_err-set_next.result c.from_residual-in_err-set_next.ensures.1 in
    let begins = begins_on _ _ _ _ _ _ _ _ _ c.set_next.ensures.stays.2
    (λ folder noted. stays_noted c.begin_write.new.self.folders c.set_next.new.self.folders folder folder c.set_next.ensures.stays.1 refl noted)
    (rw (← c.set_next.ensures.hold) at c.begin_write.ensures.begins) in
    rw p.1 (writes_no_more (string_bytes c.args.self.now.root) c.args.name.now c.args.bytes.now c.args.self.now.hold c.set_next.new.self.hold _ _ _ _ begins _ c.set_next.ensures.calls)

pub returns-in_err-make_folders-clause-calls : goal.returns-in_err-make_folders-clause-calls
returns-in_err-make_folders-clause-calls g c =
    let p = err_from_is_err_and c.from_residual-in_err-make_folders.result c.from_residual-in_err-make_folders.ensures.1 in
    let root = c.set_next.ensures.stays.0 ∙ c.begin_write.ensures.adds.0 in
    let at = c.set_next.ensures.path ∙ c.in_ok-begin_write.ensures.path.1 ∙ ap (λ root. path_of (string_bytes root) c.args.name.now) c.begin_write.ensures.adds.0 in
    let begins = begins_on _ _ _ _ _ _ _ _ _ c.set_next.ensures.stays.2
    (λ folder noted. c.make_folders.ensures.kept folder (stays_noted c.begin_write.new.self.folders c.set_next.new.self.folders folder folder c.set_next.ensures.stays.1 refl noted))
    (rw (← c.set_next.ensures.hold) at c.begin_write.ensures.begins) in
    rw p.1 (writes_on_way (string_bytes c.args.self.now.root) c.args.name.now c.args.bytes.now c.args.self.now.hold c.set_next.new.self.hold _ _ _ _ begins (rw (← c.set_next.ensures.hold) at c.in_ok-begin_write.ensures.held.0) c.in_ok-begin_write.ensures.path.0 c.set_next.new.self.path c.names_from-from.result
    at (c.names_from-from.ensures ∙ ap (λ root. length (string_bytes root) + 1) root) _ _ c.set_next.ensures.calls (rw c.as_str.ensures.path at c.make_folders.ensures.calls) (rw c.as_str.ensures.path at c.in_err-make_folders.ensures.stops))

pub returns-clause-calls : goal.returns-clause-calls
returns-clause-calls g c =
    let root = c.set_next.ensures.stays.0 ∙ c.begin_write.ensures.adds.0 in
    let at = c.set_next.ensures.path ∙ c.in_ok-begin_write.ensures.path.1 ∙ ap (λ root. path_of (string_bytes root) c.args.name.now) c.begin_write.ensures.adds.0 in
    let begins = begins_on _ _ _ _ _ _ _ _ _ c.set_next.ensures.stays.2
    (λ folder noted. c.make_folders.ensures.kept folder (stays_noted c.begin_write.new.self.folders c.set_next.new.self.folders folder folder c.set_next.ensures.stays.1 refl noted))
    (rw (← c.set_next.ensures.hold) at c.begin_write.ensures.begins) in
    writes_so (string_bytes c.args.self.now.root) c.args.name.now c.args.bytes.now c.args.self.now.hold c.set_next.new.self.hold _ _ _ _ begins (rw (← c.set_next.ensures.hold) at c.in_ok-begin_write.ensures.held.0) c.in_ok-begin_write.ensures.path.0 c.set_next.new.self.path c.names_from-from.result
    at (c.names_from-from.ensures ∙ ap (λ root. length (string_bytes root) + 1) root) _ _ c.set_next.ensures.calls (rw c.as_str.ensures.path at c.make_folders.ensures.calls) _ c.made_at-at.result.now _
    (made_so (string_bytes c.args.self.now.root) c.args.name.now c.set_next.new.self.next c.set_next.new.self.path c.made_at-at.result.now
    (c.in_ok-set_next.ensures.next ∙ ap (λ (path : List ℕ). folder_of path ++ codes ".cvkit-next") (sym c.set_next.ensures.path ∙ at)) at
    (rw (c.as_str-path.ensures.path, c.as_str-2.ensures.path) at c.made_at-at.ensures))
    (rw c.as_str.ensures.path at c.in_ok-make_folders.ensures.leads, rw c.as_str.ensures.path at c.in_ok-make_folders.ensures.noted)
    (rw c.as_str-path.ensures.path at c.put_file.ensures.puts)

pub returns-in_err-begin_write-clause-no_name : goal.returns-in_err-begin_write-clause-no_name
returns-in_err-begin_write-clause-no_name g c = c.begin_write.ensures.no_name

pub returns-in_err-set_next-clause-no_name : goal.returns-in_err-set_next-clause-no_name
returns-in_err-set_next-clause-no_name g c = λ never. let named : IsTrue (is_name c.args.name.now) = c.in_ok-begin_write.ensures.path.0 in cc

pub returns-in_err-make_folders-clause-no_name : goal.returns-in_err-make_folders-clause-no_name
returns-in_err-make_folders-clause-no_name g c = λ never. let named : IsTrue (is_name c.args.name.now) = c.in_ok-begin_write.ensures.path.0 in cc

pub returns-clause-no_name : goal.returns-clause-no_name
returns-clause-no_name g c = λ never. let named : IsTrue (is_name c.args.name.now) = c.in_ok-begin_write.ensures.path.0 in cc

pub returns-in_err-set_next-clause-holds : goal.returns-in_err-set_next-clause-holds
returns-in_err-set_next-clause-holds g c =
    λ there asked. c.set_next.ensures.hold ∙ c.begin_write.ensures.holds there asked

pub returns-in_err-make_folders-clause-holds : goal.returns-in_err-make_folders-clause-holds
returns-in_err-make_folders-clause-holds g c =
    λ there asked. c.set_next.ensures.hold ∙ c.begin_write.ensures.holds there asked

pub returns-clause-holds : goal.returns-clause-holds
returns-clause-holds g c =
    λ there asked. c.set_next.ensures.hold ∙ c.begin_write.ensures.holds there asked

pub returns-in_err-make_folders-clause-adds : goal.returns-in_err-make_folders-clause-adds
returns-in_err-make_folders-clause-adds g c =
    let root = c.set_next.ensures.stays.0 ∙ c.begin_write.ensures.adds.0 in
    let at = c.set_next.ensures.path ∙ c.in_ok-begin_write.ensures.path.1 ∙ ap (λ root. path_of (string_bytes root) c.args.name.now) c.begin_write.ensures.adds.0 in
    let from = c.names_from-from.ensures ∙ ap (λ root. length (string_bytes root) + 1) root in
    let only = rw c.as_str.ensures.path at c.make_folders.ensures.only in (
      root,
      λ folder noted.
          c.make_folders.ensures.kept folder (stays_noted c.begin_write.new.self.folders c.set_next.new.self.folders folder folder c.set_next.ensures.stays.1 refl (c.begin_write.ensures.adds.1 folder noted)),
      λ folder noted. elim (only folder noted) [
        | inl was ↦ elim (c.begin_write.ensures.adds.2 folder (stays_noted c.set_next.new.self.folders c.begin_write.new.self.folders folder folder (sym c.set_next.ensures.stays.1) refl was)) [
          | inl before ↦ inl before
          | inr is ↦ inr (inl is)
        ]
        | inr above ↦ inr (inr (above_at _ (length (string_bytes c.args.self.now.root) + 1) _ (path_of (string_bytes c.args.self.now.root) c.args.name.now) folder from at above))
      ],
      λ is. c.set_next.ensures.stays.2 (c.begin_write.ensures.adds.3 is),
      c.set_next.ensures.stays.3 ∙ c.begin_write.ensures.adds.4,
    )

pub returns-clause-adds : goal.returns-clause-adds
returns-clause-adds g c =
    let root = c.set_next.ensures.stays.0 ∙ c.begin_write.ensures.adds.0 in
    let at = c.set_next.ensures.path ∙ c.in_ok-begin_write.ensures.path.1 ∙ ap (λ root. path_of (string_bytes root) c.args.name.now) c.begin_write.ensures.adds.0 in
    let from = c.names_from-from.ensures ∙ ap (λ root. length (string_bytes root) + 1) root in
    let only = rw c.as_str.ensures.path at c.make_folders.ensures.only in (
      root,
      λ folder noted.
          c.make_folders.ensures.kept folder (stays_noted c.begin_write.new.self.folders c.set_next.new.self.folders folder folder c.set_next.ensures.stays.1 refl (c.begin_write.ensures.adds.1 folder noted)),
      λ folder noted. elim (only folder noted) [
        | inl was ↦ elim (c.begin_write.ensures.adds.2 folder (stays_noted c.set_next.new.self.folders c.begin_write.new.self.folders folder folder (sym c.set_next.ensures.stays.1) refl was)) [
          | inl before ↦ inl before
          | inr is ↦ inr (inl is)
        ]
        | inr above ↦ inr (inr (above_at _ (length (string_bytes c.args.self.now.root) + 1) _ (path_of (string_bytes c.args.self.now.root) c.args.name.now) folder from at above))
      ],
      λ is. c.set_next.ensures.stays.2 (c.begin_write.ensures.adds.3 is),
      c.set_next.ensures.stays.3 ∙ c.begin_write.ensures.adds.4,
    )

pub returns-in_err-begin_write-clause-why : goal.returns-in_err-begin_write-clause-why
returns-in_err-begin_write-clause-why g c =
    let p = err_from_is_err_and c.from_residual.result c.from_residual.ensures.1 in
    rw (p.1, p.2) (c.in_err-begin_write.ensures.why)

pub returns-in_err-set_next-clause-why : goal.returns-in_err-set_next-clause-why
returns-in_err-set_next-clause-why g c =
    let p = err_from_is_err_and c.from_residual-in_err-set_next.result c.from_residual-in_err-set_next.ensures.1 in
    let at = c.in_ok-begin_write.ensures.path.1 ∙ ap (λ root. path_of (string_bytes root) c.args.name.now) c.begin_write.ensures.adds.0 in
    rw (p.1, p.2) (inr (write_long (string_bytes c.args.self.now.root) c.args.name.now _ _ _ _ c.in_err-set_next.ensures.kind
    (next_long (string_bytes c.args.self.now.root) c.args.name.now c.begin_write.new.self.path at (long_path (length (folder_of c.begin_write.new.self.path) + 11) c.set_next.result c.set_next.ensures.ok _ c.in_err-set_next.was))))

pub returns-in_err-make_folders-clause-why : goal.returns-in_err-make_folders-clause-why
returns-in_err-make_folders-clause-why g c =
    let p = err_from_is_err_and c.from_residual-in_err-make_folders.result c.from_residual-in_err-make_folders.ensures.1 in
    rw (p.1, p.2) (elim c.in_err-make_folders.ensures.why [
      | inl memory ↦ inl (memory.0, steps_then (steps_then (begins_well _ _ _ _ _ _ _ c.in_ok-begin_write.ensures.held.0 c.begin_write.ensures.begins) (no_step c.set_next.ensures.calls)) memory.1)
      | inr fails ↦ inr (write_no_way (string_bytes c.args.self.now.root) c.args.name.now _ _ _ _ _ (steps_then (begins_grow _ _ _ _ _ _ _ c.begin_write.ensures.begins) (no_step c.set_next.ensures.calls)) fails)
    ])

pub returns-clause-why : goal.returns-clause-why
returns-clause-why g c =
    let at = c.set_next.ensures.path ∙ c.in_ok-begin_write.ensures.path.1 ∙ ap (λ root. path_of (string_bytes root) c.args.name.now) c.begin_write.ensures.adds.0 in
    IfErr-weaker c.put_file.result _ _
    (λ error fails. inr (write_not_put (string_bytes c.args.self.now.root) c.args.name.now _ _ _ _ _ (steps_then (steps_then (begins_grow _ _ _ _ _ _ _ c.begin_write.ensures.begins) (no_step c.set_next.ensures.calls)) (prepares_grow _ _ _ _ _ c.make_folders.ensures.calls)) _
    (made_so (string_bytes c.args.self.now.root) c.args.name.now c.set_next.new.self.next c.set_next.new.self.path c.made_at-at.result.now
    (c.in_ok-set_next.ensures.next ∙ ap (λ (path : List ℕ). folder_of path ++ codes ".cvkit-next") (sym c.set_next.ensures.path ∙ at)) at
    (rw (c.as_str-path.ensures.path, c.as_str-2.ensures.path) at c.made_at-at.ensures)) fails))
    c.put_file.ensures.fails
