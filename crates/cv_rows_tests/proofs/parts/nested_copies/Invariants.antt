use Rattle.std.proofs.Common.{◌≡◌, take}
use Rattle.cv_rows_tests.proofs.parts.nested_copies.Given as goal

abbrev pub invariant-loop-entry : goal.invariant-loop-entry
invariant-loop-entry l = l.copies.items ≡ take l.entry-index l.nested
