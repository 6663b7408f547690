-- What calls lead from one log to a later one.
use Rattle.std.specs.Prelude.{◌≡◌, ◌⊎◌, Bool, false, List, [], ◌∷◌, IsTrue, ⊤}
use Rattle.std.specs.declared.io.ErrorKind.TheVariants.{NotFound, NotADirectory}
use Rattle.cv_system.specs.Calls.{Cause, Call, Log, Outcome, and_call, came_out, Done, Failed, Looked, Opened, Created, Wrote, Synced, Begun, Ended, Checked, Read, Locked, Renamed, Removed, Made, Unmade, Entered, Named}

-- a look that fails for such a cause says that nothing stands at the path
abbrev pub IsNothing : Cause → Type 0
IsNothing cause = (cause.kind ≡ NotFound) ⊎ (cause.kind ≡ NotADirectory)

-- one after another, steps that are each so lead from one log to a later one
pub data Steps (IsStep : Log → Log → Type 0) (before : Log) : Log → Type 0 where
  Still : Steps IsStep before before
  Then : {between after : Log} → Steps IsStep before between → IsStep between after → Steps IsStep before after

-- a call that looks at what stands at a path
abbrev pub IsLook : Call → Type 0
IsLook (Looked path seen) = ⊤
IsLook (Opened path out) = ⊥
IsLook (Created path out) = ⊥
IsLook (Wrote path bytes out) = ⊥
IsLook (Synced path out) = ⊥
IsLook (Begun path out) = ⊥
IsLook (Ended out) = ⊥
IsLook (Checked path seen) = ⊥
IsLook (Read path bytes) = ⊥
IsLook (Locked path held) = ⊥
IsLook (Renamed from to out) = ⊥
IsLook (Removed path out) = ⊥
IsLook (Made folder out) = ⊥
IsLook (Unmade folder out) = ⊥
IsLook (Entered folder out) = ⊥
IsLook (Named folder names) = ⊥

-- calls were made, each of which is such a one
abbrev pub Makes : (Call → Type 0) → Log → Log → Type 0
Makes IsSuch before after = Steps (λ one other. (call : Call) × IsSuch call × (other ≡ and_call call one)) before after

-- calls were made, or none
abbrev pub Grows : Log → Log → Type 0
Grows before after = Makes (λ _. ⊤) before after

-- a call failed for this cause; a look that finds nothing hasn't failed
abbrev pub HasFailed : Cause → Call → Type 0
HasFailed cause call = (came_out call ≡ Failed cause) × (IsLook call → IsNothing cause → ⊥)

-- calls were made, the last of which failed for this cause
abbrev pub EndsFailed : Cause → Log → Log → Type 0
EndsFailed cause before after = (between : Log) × (call : Call) × Grows before between × HasFailed cause call × (after ≡ and_call call between)

-- these calls were tried in their order, up to the first that failed. Whether each was made
abbrev pub Tries : List (Outcome → Call) → Bool → Log → Log → Type 0
Tries [] all before after = IsTrue all × (after ≡ before)
Tries (call ∷ calls) all before after =
    Tries calls all (and_call (call Done) before) after
    ⊎ ((cause : Cause) × (all ≡ false) × (after ≡ and_call (call (Failed cause)) before))
