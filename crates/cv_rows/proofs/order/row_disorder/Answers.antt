use Rattle.std.proofs.Common.{arith}
use Rattle.cv_rows.proofs.Sorting.{row_total, sorted_all}
use Rattle.cv_rows.proofs.order.row_disorder.Goals as goal

pub returns : goal.returns
returns c = sorted_all row_total c.args.rows.now c.loop-i.i (omega arith) c.loop-i.invariant
