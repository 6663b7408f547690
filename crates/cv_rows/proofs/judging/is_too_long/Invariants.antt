use Rattle.std.proofs.Common.{◌≡◌, ◌+◌, ◌≤◌, take, length}
use Rattle.std.specs.List.{flat_map}
use Rattle.cv_rows.specs.Nested.{nested_bytes}
use Rattle.cv_rows.proofs.judging.is_too_long.Given as goal

abbrev pub invariant-loop-entry : goal.invariant-loop-entry
invariant-loop-entry l = record { value : l.total ≡ l.len + length (flat_map nested_bytes (take l.entry-index l.nested)); bound : l.total ≤ 500000000 }
