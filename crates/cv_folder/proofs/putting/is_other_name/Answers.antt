use Rattle.std.proofs.lemmas.Result.{err_from_is_err_and}
use Rattle.std.proofs.Common.{arith, inl, refl}
use Rattle.cv_folder.proofs.Others.{other_none, other_seen}
use Rattle.cv_folder.proofs.putting.is_other_name.Goals as goal

pub returns-then-found-le1 : goal.returns-then-found-le1
returns-then-found-le1 g c = inl (omega (arith, c.if-found-le1.true), refl)

pub returns-in_err-other : goal.returns-in_err-other
returns-in_err-other g c =
    let p = err_from_is_err_and c.from_residual.result c.from_residual.ensures.1 in
    rw (p.1, p.2) (omega (arith, c.if-found-le1.false), c.in_err-other.ensures.0, c.in_err-other.ensures.1)

pub returns-in-Some : goal.returns-in-Some
returns-in-Some g c =
    other_seen c.args.found.now c.in-Some.other c.is_same.result c.args.path.now _ _ c.is_same.ensures (omega (arith, c.if-found-le1.false)) (rw c.in-Some.is at c.in_ok-other.ensures)

pub returns-in-None : goal.returns-in-None
returns-in-None g c = other_none c.args.found.now c.args.path.now _ _ (omega (arith, c.if-found-le1.false)) (rw c.in-None.is at c.in_ok-other.ensures)
