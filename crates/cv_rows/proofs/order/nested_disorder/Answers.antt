use Rattle.std.proofs.Common.{arith}
use Rattle.cv_rows.proofs.Sorting.{nested_total, sorted_all}
use Rattle.cv_rows.proofs.order.nested_disorder.Goals as goal

pub returns : goal.returns
returns c = sorted_all nested_total c.args.nested.now c.loop-i.i (omega arith) c.loop-i.invariant
