-- Calls that didn't end what was going on.
use Rattle.std.specs.Prelude.{⊤}
use Rattle.cv_system.specs.Calls.{Cause, Done, Failed, Log, Outcome, came_out}
use Rattle.cv_system.specs.Steps.{Makes}

-- how a call came out: it was made, or it failed for a cause that is passed over
abbrev pub ComesOut : (Cause → Type 0) → Outcome → Type 0
ComesOut IsPassed Done = ⊤
ComesOut IsPassed (Failed cause) = IsPassed cause

-- calls were made, each of which came out so
abbrev pub GoesOn : (Cause → Type 0) → Log → Log → Type 0
GoesOn IsPassed before after = Makes (λ call. ComesOut IsPassed (came_out call)) before after
