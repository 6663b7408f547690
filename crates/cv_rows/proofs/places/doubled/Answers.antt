use Rattle.std.proofs.Common.{arith}
use Rattle.cv_rows.proofs.Steps.{twice}
use Rattle.cv_rows.proofs.places.doubled.Goals as goal

pub returns : goal.returns
returns c = twice c.args.far.now c.loop-above.farther.items (omega arith) (λ i lt. c.loop-above.invariant.each i (omega arith))
