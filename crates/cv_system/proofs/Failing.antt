-- Calls of which the last failed.
use Rattle.std.proofs.Common.{◌≡◌, Bool, List, ℕ, Result, Ok, Err, refl}
use Rattle.std.specs.Prelude.{IfErr}
use Rattle.std.specs.declared.io.Error.{Error}
use Rattle.cv_system.specs.Calls.{Cause, cause_of, Call, Log, Outcome, Failed, Looked, and_call, came_out, outcome}
use Rattle.cv_system.specs.LooksInner.{LooksForFolder}
use Rattle.cv_system.specs.Steps.{EndsFailed, Grows, IsLook, IsNothing, Makes, Still}
use Rattle.cv_system.proofs.Stepping.{steps_then, steps_wider}

-- whatever calls were made, the log has grown by them
pub grows : {IsSuch : Call → Type 0} {before after : Log} → Makes IsSuch before after → Grows before after
grows made = steps_wider (λ one other (call, such, is). (call, tt, is)) made

-- one call failed
pub fails_now : {cause : Cause} {before after : Log} (call : Call) → came_out call ≡ Failed cause → (IsLook call → IsNothing cause → ⊥) → after ≡ and_call call before → EndsFailed cause before after
fails_now {before} call out there is = (before, call, Still, (out, there), is)

-- a call that was made failed, if it answered so
pub one_fails : {A : Type 0} (call : Outcome → Call) → ((out : Outcome) → came_out (call out) ≡ out) → ((out : Outcome) → IsLook (call out) → ⊥) → (result : Result A Error) (before after : Log)
    → after ≡ and_call (call (outcome result)) before → IfErr result (λ error. EndsFailed (cause_of error) before after)
one_fails call so not (Ok x) before after is = tt
one_fails call so not (Err error) before after is = fails_now (call (Failed (cause_of error))) (so (Failed (cause_of error))) (λ look nothing. not (Failed (cause_of error)) look) is

-- calls were made before
pub fails_then : {cause : Cause} {before between after : Log} → Grows before between → EndsFailed cause between after → EndsFailed cause before after
fails_then made (last, call, more, out, is) = (last, call, steps_then made more, out, is)

pub look_for_folder_fails : (path : List ℕ) (result : Result Bool Error) (before after : Log) → LooksForFolder path result before after → IfErr result (λ error. EndsFailed (cause_of error) before after)
look_for_folder_fails path (Ok is_folder) before after is = tt
look_for_folder_fails path (Err error) before after (there, is) = fails_now (Looked path (Err (cause_of error))) refl (λ look. there) is
