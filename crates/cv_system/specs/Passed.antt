-- Which errors a listing or a sync passes over.
use Rattle.std.specs.Prelude.{ℕ, ◌≡◌, ◌≢◌, ◌⊎◌, ◌≤◌, ◌+◌, List, ◌++◌, codes, length, Result, Ok, Err}
use Rattle.std.specs.declared.io.ErrorKind.TheVariants.{NotFound, InvalidFilename, PermissionDenied}
use Rattle.cv_system.specs.declared.path_buffer.TheConstants.{PATH_ROOM}
use Rattle.cv_system.specs.declared.seen.Seen.{Seen}
use Rattle.cv_system.specs.Calls.{Cause, Log, Looked, and_call}

-- no name of a vault is behind such an error, and a walk or a listing goes on without it: a path is longer than the system takes, or nothing is there
abbrev pub HidesNoName : Cause → Type 0
HidesNoName cause = (cause.kind ≡ InvalidFilename) ⊎ (cause.kind ≡ NotFound)

-- a look at `.` in a folder tells this
abbrev pub LooksInto : List ℕ → Result Seen Cause → Log → Log → Type 0
LooksInto folder told before after = after ≡ and_call (Looked (folder ++ codes ".") told) before

-- a look was refused to this process
abbrev pub TellsShut : Result Seen Cause → Type 0
TellsShut (Ok seen) = ⊥
TellsShut (Err cause) = cause.kind ≡ PermissionDenied

-- this process may look nothing up in a folder: a look into it says so, or the folder's path leaves no room for a name
abbrev pub IsShut : List ℕ → Log → Log → Type 0
IsShut folder before after =
    ((told : Result Seen Cause) × TellsShut told × LooksInto folder told before after) ⊎ ((PATH_ROOM ≤ length folder + 1) × (after ≡ before))

-- a look into a folder doesn't say that it is shut
abbrev pub IsOpen : List ℕ → Log → Log → Type 0
IsOpen folder before after = (told : Result Seen Cause) × (TellsShut told → ⊥) × LooksInto folder told before after

-- an error in a folder is passed over: no name of the vault is behind it, or this process may do nothing there, and the folder is shut
abbrev pub Passes : List ℕ → Cause → Log → Log → Type 0
Passes folder cause before after = (HidesNoName cause × (after ≡ before)) ⊎ ((cause.kind ≡ PermissionDenied) × IsShut folder before after)

-- it isn't: it is another error, or the folder isn't shut
abbrev pub StopsAt : List ℕ → Cause → Log → Log → Type 0
StopsAt folder cause before after =
    ((HidesNoName cause → ⊥) × (cause.kind ≢ PermissionDenied) × (after ≡ before))
    ⊎ ((cause.kind ≡ PermissionDenied) × IsOpen folder before after)
