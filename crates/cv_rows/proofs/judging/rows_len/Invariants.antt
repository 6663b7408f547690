use Rattle.std.proofs.Common.{◌≡◌, ◌*◌, ◌≤◌, take, length}
use Rattle.std.specs.List.{flat_map}
use Rattle.cv_rows.specs.Row.{row_bytes}
use Rattle.cv_rows.specs.declared.judging.TheConstants.{ROW_ROOM}
use Rattle.cv_rows.proofs.judging.rows_len.Given as goal

abbrev pub invariant-loop-row : goal.invariant-loop-row
invariant-loop-row l = record { value : l.len ≡ length (flat_map row_bytes (take l.row-index l.rows)); bound : l.len ≤ ROW_ROOM * l.row-index }
