use Rattle.std.proofs.Common.{◌^◌}
use Rattle.cv_rows.specs.ParentsInner.{AreAbove}
use Rattle.cv_rows.proofs.places.far_above.Given as goal

abbrev pub invariant-loop : goal.invariant-loop
invariant-loop l = AreAbove (2 ^ l.counter) l.parents l.far.items
