use Rattle.std.proofs.Common.{◌≡◌, ℕ, ◌<◌, length, get_or}
use Rattle.cv_rows.proofs.places.doubled.Given as goal

abbrev pub invariant-loop-above : goal.invariant-loop-above
invariant-loop-above l = record { size : length l.farther.items ≡ l.above-index; each : (i : ℕ) → i < l.above-index → get_or l.farther.items i 0 ≡ get_or l.far (get_or l.far i 0) 0 }
