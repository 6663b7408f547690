-- Steps from one log to a later one.
use Rattle.std.proofs.Common.{◌≡◌, Bool, true, false, List, ℕ, Option, Some, None, Result, Ok, Err, sym, subst}
use Rattle.std.specs.declared.io.Error.{Error}
use Rattle.cv_system.specs.declared.seen.Seen.{Seen}
use Rattle.cv_system.specs.Calls.{cause_of, Call, Log, and_call, Looked}
use Rattle.cv_system.specs.Looks.{Looks}
use Rattle.cv_system.specs.LooksInner.{LooksForFolder}
use Rattle.cv_system.specs.Steps.{IsLook, Makes, Steps, Still, Then}

-- some steps, and then others
pub steps_then : {IsStep : Log → Log → Type 0} {before between after : Log} → Steps IsStep before between → Steps IsStep between after → Steps IsStep before after
steps_then first Still = first
steps_then first (Then more step) = Then (steps_then first more) step

-- steps of one form are steps of a wider one
pub steps_wider : {IsStep IsOther : Log → Log → Type 0} {before after : Log} → ((one other : Log) → IsStep one other → IsOther one other) → Steps IsStep before after → Steps IsOther before after
steps_wider widen Still = Still
steps_wider widen (Then {between} {after} more step) = Then (steps_wider widen more) (widen between after step)

-- no step
pub no_step : {IsStep : Log → Log → Type 0} {before after : Log} → after ≡ before → Steps IsStep before after
no_step {IsStep} {before} same = subst (Steps IsStep before) (sym same) Still

-- one call
pub one_call : {IsSuch : Call → Type 0} {before after : Log} (call : Call) → IsSuch call → after ≡ and_call call before → Makes IsSuch before after
one_call call such is = Then Still (call, such, is)

-- a look at a path is one
pub looks_so : (path : List ℕ) (result : Result (Option Seen) Error) (before after : Log) → Looks path result before after → Makes IsLook before after
looks_so path (Ok (Some seen)) before after is = one_call (Looked path (Ok seen)) tt is
looks_so path (Ok None) before after (cause, nothing, is) = one_call (Looked path (Err cause)) tt is
looks_so path (Err error) before after (there, is) = one_call (Looked path (Err (cause_of error))) tt is

pub looks_for_folder : (path : List ℕ) (result : Result Bool Error) (before after : Log) → LooksForFolder path result before after → Makes IsLook before after
looks_for_folder path (Ok true) before after (seen, is_folder, is) = one_call (Looked path (Ok seen)) tt is
looks_for_folder path (Ok false) before after (seen, no_folder, is) = one_call (Looked path seen) tt is
looks_for_folder path (Err error) before after (there, is) = one_call (Looked path (Err (cause_of error))) tt is
