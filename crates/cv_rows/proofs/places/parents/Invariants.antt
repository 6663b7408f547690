use Rattle.std.proofs.Common.{◌≡◌, ℕ, ◌<◌, length, get_or}
use Rattle.cv_rows.specs.ParentsInner.{IsParentOf}
use Rattle.cv_rows.proofs.places.parents.Given as goal

abbrev pub invariant-loop-row : goal.invariant-loop-row
invariant-loop-row l = record { size : length l.parents.items ≡ l.row; each : (i : ℕ) → i < l.row → IsParentOf l.rows l.root i (get_or l.parents.items i 0) }
