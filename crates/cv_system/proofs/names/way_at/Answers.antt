use Rattle.std.proofs.Common.{◌∙◌, sym}
use Rattle.cv_system.proofs.Places.{at_own}
use Rattle.cv_system.proofs.names.way_at.Goals as goal

pub returns-in_err-part : goal.returns-in_err-part
returns-in_err-part c = rw c.from_residual.ensures tt

pub returns-then-has_no_slash : goal.returns-then-has_no_slash
returns-then-has_no_slash c = at_own c.args.place.now c.in_ok-part.part.now c.in_ok-part.ensures.cases (sym c.has_no_slash.ensures ∙ c.if-has_no_slash.true)
