use Rattle.std.proofs.lemmas.Result.{err_from_is_err_and}
use Rattle.std.proofs.lemmas.Slice.Eq.{bytes_eq-Decides}
use Rattle.std.proofs.Common.{◌∙◌, ◌+◌, Ok, Some, ap, inl, inr, length, refl, string_bytes, subst, sym}
use Rattle.std.specs.declared.io.Error.{Error}
use Rattle.cv_system.specs.Names.{folder_of, path_of}
use Rattle.cv_folder.specs.FolderVaultInner.{FindsNamed}
use Rattle.cv_folder.proofs.Acts.{acts_on, moves_in_vain, moves_lost, moves_named, moves_none}
use Rattle.cv_folder.proofs.Notes.{stays_noted}
use Rattle.cv_folder.specs.Writes.{IsAbove}
use Rattle.cv_system.proofs.Laws.{steps_then}
use Rattle.cv_folder.proofs.Growing.{found_grows}
use Rattle.cv_folder.proofs.Well.{found_well}
use Rattle.cv_folder.proofs.Reasons.{move_so, rename_fails, rename_no_name, rename_same}
use Rattle.cv_folder.proofs.folder_vault.FolderVault.rename_now.Goals as goal

pub returns-in_err-found-clause-calls : goal.returns-in_err-found-clause-calls
returns-in_err-found-clause-calls g c = λ differ named.
    let p = err_from_is_err_and c.from_residual.result c.from_residual.ensures.1 in
    rw p.1 (acts_on g.S.System.log _ _ _ _ _ c.in_err-found.ensures.calls refl (λ asked look. moves_lost (string_bytes c.args.self.now.root) c.args.from.now _ asked _ c.args.to.now _ _ _ look))

pub returns-in-None-clause-calls : goal.returns-in-None-clause-calls
returns-in-None-clause-calls g c = λ differ named.
    acts_on g.S.System.log _ _ _ _ _ (rw c.in-None.is at c.in_ok-found.ensures.calls) refl (λ asked look. moves_none (string_bytes c.args.self.now.root) c.args.from.now _ asked _ c.args.to.now _ look)

pub returns-in_err-move_found-in-Some-clause-calls : goal.returns-in_err-move_found-in-Some-clause-calls
returns-in_err-move_found-in-Some-clause-calls g c = λ differ named.
    let p = err_from_is_err_and c.from_residual-in_err-move_found-in-Some.result c.from_residual-in_err-move_found-in-Some.ensures.1 in
    rw p.1 (acts_on g.S.System.log _ _ _ _ _ (rw c.in-Some.is at c.in_ok-found.ensures.calls) c.move_found.ensures.hold
    (λ asked has. moves_in_vain (string_bytes c.args.self.now.root) c.args.from.now _ asked c.in-Some.found _ (subst (λ hold. FindsNamed {E = Error} (string_bytes c.args.self.now.root) c.args.from.now hold (Ok (Some c.in-Some.found)) asked (g.S.System.log c.find.new.self.system)) (sym c.move_found.ensures.hold) has) c.args.to.now _ _ _ (ap string_bytes c.find.ensures.stays.0) (c.in_ok-found.ensures.path.0.1 ∙ ap (λ root. path_of (string_bytes root) c.args.from.now) c.find.ensures.stays.0) _ _ c.in_err-move_found-in-Some.ensures.calls))

pub returns-in_ok-move_found-in-Some-clause-calls : goal.returns-in_ok-move_found-in-Some-clause-calls
returns-in_ok-move_found-in-Some-clause-calls g c = λ differ named.
    acts_on g.S.System.log _ _ _ _ _ (rw c.in-Some.is at c.in_ok-found.ensures.calls) c.move_found.ensures.hold
    (λ asked has. moves_named (string_bytes c.args.self.now.root) c.args.from.now _ asked c.in-Some.found _ (subst (λ hold. FindsNamed {E = Error} (string_bytes c.args.self.now.root) c.args.from.now hold (Ok (Some c.in-Some.found)) asked (g.S.System.log c.find.new.self.system)) (sym c.move_found.ensures.hold) has) c.args.to.now _ _ _ (ap string_bytes c.find.ensures.stays.0) (c.in_ok-found.ensures.path.0.1 ∙ ap (λ root. path_of (string_bytes root) c.args.from.now) c.find.ensures.stays.0) _ c.in_ok-move_found-in-Some.ensures.calls)

pub returns-in_ok-move_found-in-Some-clause-left : goal.returns-in_ok-move_found-in-Some-clause-left
returns-in_ok-move_found-in-Some-clause-left g c = λ _.
    let at = c.in_ok-found.ensures.path.0.1 ∙ ap (λ root. path_of (string_bytes root) c.args.from.now) (sym c.move_found.ensures.adds.0) in
    rw at at c.in_ok-move_found-in-Some.ensures.left

pub returns-in_err-found-clause-holds : goal.returns-in_err-found-clause-holds
returns-in_err-found-clause-holds g c =
    c.find.ensures.holds

pub returns-in-None-clause-holds : goal.returns-in-None-clause-holds
returns-in-None-clause-holds g c =
    c.find.ensures.holds

pub returns-in_err-move_found-in-Some-clause-adds : goal.returns-in_err-move_found-in-Some-clause-adds
returns-in_err-move_found-in-Some-clause-adds g c =
    let at = c.in_ok-found.ensures.path.0.1 ∙ ap (λ root. path_of (string_bytes root) c.args.from.now) c.find.ensures.stays.0 in (
      c.move_found.ensures.adds.0 ∙ c.find.ensures.stays.0,
      λ folder noted. c.move_found.ensures.adds.1 folder (stays_noted c.args.self.now.folders c.find.new.self.folders folder folder c.find.ensures.stays.1 refl noted),
      λ folder noted. elim (c.move_found.ensures.adds.2 folder noted) [
        | inl was ↦ inl (stays_noted c.find.new.self.folders c.args.self.now.folders folder folder (sym c.find.ensures.stays.1) refl was)
        | inr above ↦ inr (elim above [
          | inl is ↦ inl (is ∙ ap folder_of at)
          | inr on ↦ inr (subst (λ root. IsAbove (length (string_bytes root) + 1) (path_of (string_bytes root) c.args.to.now) folder) c.find.ensures.stays.0 on)
        ])
      ],
      λ is. c.move_found.ensures.adds.3 (c.find.ensures.stays.2 is),
      c.move_found.ensures.adds.4 ∙ c.find.ensures.stays.3,
    )

pub returns-in_ok-move_found-in-Some-clause-adds : goal.returns-in_ok-move_found-in-Some-clause-adds
returns-in_ok-move_found-in-Some-clause-adds g c =
    let at = c.in_ok-found.ensures.path.0.1 ∙ ap (λ root. path_of (string_bytes root) c.args.from.now) c.find.ensures.stays.0 in (
      c.move_found.ensures.adds.0 ∙ c.find.ensures.stays.0,
      λ folder noted. c.move_found.ensures.adds.1 folder (stays_noted c.args.self.now.folders c.find.new.self.folders folder folder c.find.ensures.stays.1 refl noted),
      λ folder noted. elim (c.move_found.ensures.adds.2 folder noted) [
        | inl was ↦ inl (stays_noted c.find.new.self.folders c.args.self.now.folders folder folder (sym c.find.ensures.stays.1) refl was)
        | inr above ↦ inr (elim above [
          | inl is ↦ inl (is ∙ ap folder_of at)
          | inr on ↦ inr (subst (λ root. IsAbove (length (string_bytes root) + 1) (path_of (string_bytes root) c.args.to.now) folder) c.find.ensures.stays.0 on)
        ])
      ],
      λ is. c.move_found.ensures.adds.3 (c.find.ensures.stays.2 is),
      c.move_found.ensures.adds.4 ∙ c.find.ensures.stays.3,
    )

pub returns-then-eq-clause-why : goal.returns-then-eq-clause-why
returns-then-eq-clause-why g c = inr (rename_same (string_bytes c.args.self.now.root) c.args.from.now c.args.to.now _ _ _ _ c.refused.ensures ((bytes_eq-Decides c.args.from.now c.args.to.now).0 (sym c.eq.ensures ∙ c.if-eq.true)))

pub returns-then-not-is_name-clause-why : goal.returns-then-not-is_name-clause-why
returns-then-not-is_name-clause-why g c = inr (rename_no_name (string_bytes c.args.self.now.root) c.args.from.now c.args.to.now _ _ _ _ c.refused-then-not-is_name.ensures (sym c.is_name.ensures ∙ c.if-not-is_name.true))

pub returns-in_err-found-clause-why : goal.returns-in_err-found-clause-why
returns-in_err-found-clause-why g c =
    let p = err_from_is_err_and c.from_residual.result c.from_residual.ensures.1 in
    rw (p.1, p.2) (inr (move_so (string_bytes c.args.self.now.root) c.args.from.now _ _ _ _ c.args.to.now c.in_err-found.ensures.why))

pub returns-in_err-move_found-in-Some-clause-why : goal.returns-in_err-move_found-in-Some-clause-why
returns-in_err-move_found-in-Some-clause-why g c =
    let p = err_from_is_err_and c.from_residual-in_err-move_found-in-Some.result c.from_residual-in_err-move_found-in-Some.ensures.1 in
    rw (p.1, p.2) (elim c.in_err-move_found-in-Some.ensures.why [
      | inl memory ↦ inl (memory.0, steps_then (found_well g.S.System.log c.args.self.now c.find.new.self (string_bytes c.args.self.now.root) c.args.from.now c.in-Some.found (rw c.in-Some.is at c.in_ok-found.ensures.calls)) memory.1)
      | inr fails ↦ inr (rename_fails (string_bytes c.args.self.now.root) (string_bytes c.find.new.self.root) c.args.from.now c.args.to.now _ _ _ _ _ (ap string_bytes c.find.ensures.stays.0)
          (found_grows g.S.System.log c.args.self.now c.find.new.self (string_bytes c.args.self.now.root) c.args.from.now c.find.new.self.hold c.in-Some.found (rw c.in-Some.is at c.in_ok-found.ensures.calls)) fails)
    ])
