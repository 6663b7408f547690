-- The calls of a vault in memory that are to fail, by their numbers.
use Rattle.std.specs.Prelude.{ℕ, ◌+◌, ◌==◌, List, nat_lt, count_by, if◌then◌else◌}
use Rattle.cv_base.specs.Counts.{last_count}

-- how often the number of the next call stands among those that are to fail, after so many calls. Calls are numbered from 1 up to the last value of a `u64`
abbrev pub times_next : List ℕ → ℕ → ℕ
times_next failing calls = if nat_lt calls last_count then count_by (λ k. k == calls + 1) failing else 0

-- how many of the numbers are those of later calls
abbrev pub later_failures : List ℕ → ℕ → ℕ
later_failures failing calls = count_by (λ k. nat_lt calls k) failing
