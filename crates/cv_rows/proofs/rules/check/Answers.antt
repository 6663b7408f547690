use Rattle.std.proofs.Common.{refl, inl, inr}
use Rattle.std.proofs.lemmas.Result.{err_from_is_err_and}
use Rattle.cv_rows.proofs.rules.check.Goals as goal

pub root_position-requires : goal.root_position-requires
root_position-requires c = (c.in_ok-check_order.ensures c.args.at.now).0

pub returns-in_err-check_order : goal.returns-in_err-check_order
returns-in_err-check_order c =
    let p = err_from_is_err_and c.from_residual.result c.from_residual.ensures.1 in
    rw (p.1, p.2) (c.in_err-check_order.ensures c.args.at.now)

pub returns-in-None : goal.returns-in-None
returns-in-None c = inr (c.in_ok-check_order.ensures c.args.at.now, inl (c.in-None.ensures, refl))
