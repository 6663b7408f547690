-- Counts that stay at their last number, and the calls of an object in memory, of which those of stated numbers fail.
use Rattle.std.specs.Prelude.{◌≡◌, ◌≤◌, ℕ, zero, suc, ◌==◌, ◌||◌, nat_lt, List, Bool, if◌then◌else◌}
use Rattle.std.specs.List.{list_any}
use Rattle.cv_base.specs.Counts.{raised}

-- the numbers of the calls that are to fail, how many calls were made, and how many failed
pub record Calls : Type 0 where
  pub failing : List ℕ
  pub count : ℕ
  pub faults : ℕ

-- so many more, up to the last number of 64 bits
abbrev pub raised_by : ℕ → ℕ → ℕ
raised_by zero count = count
raised_by (suc n) count = raised (raised_by n count)

-- at most so many more
abbrev pub RaisedAtMost : ℕ → ℕ → ℕ → Type 0
RaisedAtMost most before after = (n : ℕ) × (n ≤ most) × (after ≡ raised_by n before)

-- the next call is to fail: its number is among them
abbrev pub fails : Calls → Bool
fails c = list_any (λ number. number == raised c.count) c.failing

-- after the next call
abbrev pub called : Calls → Calls
called c = record c { count = raised c.count; faults = if fails c then raised c.faults else c.faults }

-- the next call is to fail where a failure lasts: its number is among them, or one failed before
abbrev pub breaks : Calls → Bool
breaks c = fails c || nat_lt 0 c.faults

-- after the next call, where a failure lasts
abbrev pub called_while_whole : Calls → Calls
called_while_whole c = record c { count = raised c.count; faults = if breaks c then raised c.faults else c.faults }
