-- Counts of faults and of calls: a count never falls, and stands still at the last number of 64 bits.
use Rattle.std.specs.Prelude.{ℕ, ◌+◌, ◌≤◌, min}

-- the last value that a count takes
abbrev pub last_count : ℕ
last_count = 18446744073709551615

-- one more, up to the last value
abbrev pub raised : ℕ → ℕ
raised count = min (count + 1) last_count

-- the count rose by n at least, or stands at its last value
abbrev pub Rose : ℕ → ℕ → ℕ → Type 0
Rose n before now = min (before + n) last_count ≤ now

-- the count hasn't fallen, and it rose where the call failed
pub record HasCause (before now : ℕ) (Fails : Type 0) : Type 0 where
  pub later : before ≤ now
  pub failed : Fails → Rose 1 before now
