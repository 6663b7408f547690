use Rattle.std.proofs.lemmas.Result.{err_from_is_err_and, IfErr-weaker}
use Rattle.std.proofs.Common.{◌∙◌, ap, inl, inr, refl, Ok, Err}
use Rattle.cv_system.specs.Calls.{Removed, Renamed, Looked}
use Rattle.cv_folder.specs.Writes.{MovesFile}
use Rattle.cv_system.proofs.Laws.{tried_one, fails_now, fails_then, one_fails}
use Rattle.cv_folder.proofs.Growing.{other_grows, others_grow}
use Rattle.cv_folder.proofs.putting.move_file.Goals as goal

pub returns-in_err-is_other_name-clause-moves : goal.returns-in_err-is_other_name-clause-moves
unfolding MovesFile
returns-in_err-is_other_name-clause-moves g c =
    let p = err_from_is_err_and c.from_residual.result c.from_residual.ensures.1 in
    let look = rw c.in_err-is_other_name.was at c.is_other_name.ensures in
    rw p.1 (inr (inr (refl, look.0, _, look.1, look.2)))

pub returns-then-branch-clause-moves : goal.returns-then-branch-clause-moves
unfolding MovesFile
returns-then-branch-clause-moves g c =
    inr (inl (_, rw (c.in_ok-is_other_name.was ∙ ap Ok c.if-branch.true) at c.is_other_name.ensures, tried_one (Removed c.args.from.now) c.remove_file.result _ _ c.remove_file.ensures))

pub returns-else-branch-clause-moves : goal.returns-else-branch-clause-moves
unfolding MovesFile
returns-else-branch-clause-moves g c = inl (_, rw (c.in_ok-is_other_name.was ∙ ap Ok c.if-branch.false) at c.is_other_name.ensures, tried_one (Renamed c.args.from.now c.args.to.now) c.rename.result _ _ c.rename.ensures)

pub returns-in_err-is_other_name-clause-fails : goal.returns-in_err-is_other_name-clause-fails
returns-in_err-is_other_name-clause-fails g c =
    let p = err_from_is_err_and c.from_residual.result c.from_residual.ensures.1 in
    let look = rw c.in_err-is_other_name.was at c.is_other_name.ensures in
    rw (p.1, p.2) (fails_now (Looked c.args.to.now (Err _)) refl (λ is. look.1) look.2)

pub returns-then-branch-clause-fails : goal.returns-then-branch-clause-fails
returns-then-branch-clause-fails g c =
    IfErr-weaker c.remove_file.result _ _
    (λ error fails. fails_then (other_grows c.args.found.now c.args.to.now _ _ (rw (c.in_ok-is_other_name.was ∙ ap Ok c.if-branch.true) at c.is_other_name.ensures)) fails)
    (one_fails (Removed c.args.from.now) (λ out. refl) (λ out look. look) c.remove_file.result _ _ c.remove_file.ensures)

pub returns-else-branch-clause-fails : goal.returns-else-branch-clause-fails
returns-else-branch-clause-fails g c =
    IfErr-weaker c.rename.result _ _
    (λ error fails. fails_then (others_grow c.args.found.now c.args.to.now _ _ (rw (c.in_ok-is_other_name.was ∙ ap Ok c.if-branch.false) at c.is_other_name.ensures)) fails)
    (one_fails (Renamed c.args.from.now c.args.to.now) (λ out. refl) (λ out look. look) c.rename.result _ _ c.rename.ensures)
