-- What a system tells: the calls that were made of it, each with what it was asked and how it came out.
use Rattle.std.specs.Prelude.{ℕ, ℤ, ◌≡◌, Bool, List, [], ◌∷◌, ◌++◌, take, Option, None, option_map, Result, Ok, Err}
use Rattle.std.specs.IoError.{error_kind, raw_os_error}
use Rattle.std.specs.declared.io.Error.{Error}
use Rattle.std.specs.declared.io.ErrorKind.{ErrorKind}
use Rattle.std.specs.declared.io.ErrorKind.TheVariants.{OutOfMemory}
use Rattle.std.specs.declared.vec.Vec.{Vec}
use Rattle.cv_system.specs.declared.seen.Seen.{Seen}

-- why a call failed: the kind of its error, and the number that the system gave it
pub record Cause : Type 0 where
  pub kind : ErrorKind
  pub number : Option ℤ

-- what an error tells of its cause
abbrev pub cause_of : Error → Cause
cause_of error = record { kind = error_kind error; number = raw_os_error error }

-- want of memory in this process, which has no number of the system
abbrev pub IsWant : Cause → Type 0
IsWant cause = (cause.kind ≡ OutOfMemory) × (cause.number ≡ None)

-- how a call came out: it was made, or it failed for this cause
pub data Outcome : Type 0 where
  Done : Outcome
  Failed : Cause → Outcome

-- a call, by the path that it was about, what else it was asked, and how it came out. A sync of a file is begun, and all that were are ended
pub data Call : Type 0 where
  Looked : (path : List ℕ) → Result Seen Cause → Call
  Opened : (path : List ℕ) → Outcome → Call
  Created : (path : List ℕ) → Outcome → Call
  Wrote : (path bytes : List ℕ) → Outcome → Call
  Synced : (path : List ℕ) → Outcome → Call
  Begun : (path : List ℕ) → Outcome → Call
  Ended : Outcome → Call
  Checked : (path : List ℕ) → Result Seen Cause → Call
  Read : (path : List ℕ) → Result (List ℕ) Cause → Call
  Locked : (path : List ℕ) → Result Bool Cause → Call
  Renamed : (from to : List ℕ) → Outcome → Call
  Removed : (path : List ℕ) → Outcome → Call
  Made : (folder : List ℕ) → Outcome → Call
  Unmade : (folder : List ℕ) → Outcome → Call
  Entered : (folder : List ℕ) → Outcome → Call
  Named : (folder : List ℕ) → Result (List ℕ) Cause → Call

-- the calls that were made, in their order, where they are told
abbrev pub Log : Type 0
Log = Option (List Call)

-- with one call more
unfoldable pub and_call : Call → Log → Log
and_call call log = option_map (λ calls. calls ++ call ∷ []) log

-- with these calls more
abbrev pub and_calls : List Call → Log → Log
and_calls [] log = log
and_calls (call ∷ calls) log = and_calls calls (and_call call log)

-- how a call came out that answered so
abbrev pub outcome : {A : Type 0} → Result A Error → Outcome
outcome (Ok x) = Done
outcome (Err error) = Failed (cause_of error)

-- what a call gave that answered so, or why it failed
abbrev pub told : {A : Type 0} → Result A Error → Result A Cause
told (Ok x) = Ok x
told (Err error) = Err (cause_of error)

-- the same of bytes
abbrev pub told_bytes : {Z : Type 0} → Result (Vec ℕ Z) Error → Result (List ℕ) Cause
told_bytes (Ok bytes) = Ok bytes.items
told_bytes (Err error) = Err (cause_of error)

-- the names that a call gave in the front of a buffer, or why it failed
abbrev pub told_names : Result ℕ Error → List ℕ → Result (List ℕ) Cause
told_names (Ok count) buffer = Ok (take count buffer)
told_names (Err error) buffer = Err (cause_of error)

-- how a call came out that told so
abbrev pub outcome_of : {A : Type 0} → Result A Cause → Outcome
outcome_of (Ok x) = Done
outcome_of (Err cause) = Failed cause

-- how a call came out
abbrev pub came_out : Call → Outcome
came_out (Looked path seen) = outcome_of seen
came_out (Opened path out) = out
came_out (Created path out) = out
came_out (Wrote path bytes out) = out
came_out (Synced path out) = out
came_out (Begun path out) = out
came_out (Ended out) = out
came_out (Checked path seen) = outcome_of seen
came_out (Read path bytes) = outcome_of bytes
came_out (Locked path held) = outcome_of held
came_out (Renamed from to out) = out
came_out (Removed path out) = out
came_out (Made folder out) = out
came_out (Unmade folder out) = out
came_out (Entered folder out) = out
came_out (Named folder names) = outcome_of names
