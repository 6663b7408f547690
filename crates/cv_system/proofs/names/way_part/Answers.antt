use Rattle.std.proofs.Common.{◌∙◌, sym}
use Rattle.cv_system.proofs.Places.{a_way, another_front, more_parts}
use Rattle.cv_system.proofs.names.way_part.Goals as goal

pub returns-in_err-part : goal.returns-in_err-part
returns-in_err-part c = rw c.from_residual.ensures (another_front c.args.name.now c.in_err-part.ensures.cases)

pub returns-then-has_no_slash : goal.returns-then-has_no_slash
returns-then-has_no_slash c = a_way c.args.name.now c.in_ok-part.part.now c.in_ok-part.ensures.cases (sym c.has_no_slash.ensures ∙ c.if-has_no_slash.true)

pub returns-else-has_no_slash : goal.returns-else-has_no_slash
returns-else-has_no_slash c = more_parts c.args.name.now c.in_ok-part.part.now c.in_ok-part.ensures.cases (sym c.has_no_slash.ensures ∙ c.if-has_no_slash.false)
