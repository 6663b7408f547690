-- Where a call of a vault over a folder stands. What only this crate's own functions say.
use Rattle.std.specs.Prelude.{ℕ, ◌≡◌, ◌≢◌, ◌⊎◌, ◌<◌, ◌≤◌, ◌+◌, ◌||◌, List, length, IsTrue, string_bytes, Bool, true, false, Option, Some, None, Result, Ok, Err}
use Rattle.std.specs.declared.io.Error.{Error}
use Rattle.std.specs.declared.io.ErrorKind.TheVariants.{AlreadyExists, InvalidInput}
use Rattle.cv_folder.specs.declared.folder_vault.FolderVault.{FolderVault}
use Rattle.cv_folder.specs.declared.hold.Hold.{Hold}
use Rattle.cv_folder.specs.declared.hold.Hold.TheVariants.{Absent, Refused}
use Rattle.cv_folder.specs.Causes.{FailsOnWay, IsRefused}
use Rattle.cv_folder.specs.Hold.{IsHeld, Locks, LocksAndLeaves}
use Rattle.cv_system.specs.declared.path_buffer.TheConstants.{PATH_ROOM}
use Rattle.cv_base.specs.Path.{with_slash}
use Rattle.cv_system.specs.Names.{folder_of, is_name, path_of}
use Rattle.cv_folder.specs.Reads.{HasFile, LacksFile, LooksInVain}
use Rattle.cv_folder.specs.Writes.{EndsOnWay, LeadsTo, MovesFile, Prepares, SeesNoOther, SeesOther}
use Rattle.cv_system.specs.declared.seen.Seen.{Seen}
use Rattle.cv_system.specs.declared.syncing.Unsynced.{Unsynced}
use Rattle.cv_folder.specs.Unsynced.{is_lost}
use Rattle.cv_system.specs.Calls.{Cause, cause_of, Done, Failed, Log, Looked, Made, Outcome, Removed, Unmade, and_call}
use Rattle.cv_system.specs.Steps.{EndsFailed, IsNothing}

-- this is a name of the vault, and its path is set
abbrev pub IsAt : {S F N : Type 0} → FolderVault S F N → List ℕ → Type 0
IsAt vault name = IsTrue (is_name name) × (vault.path ≡ path_of (string_bytes vault.root) name)

-- whether there is a folder: the vault holds it, or it isn't there
abbrev pub HasFolder : {F : Type 0} → Hold F → Bool → Type 0
HasFolder hold true = IsHeld hold
HasFolder hold false = hold ≡ Absent

-- a file that was found at a path is moved to a name: folders are made on the way to it, and once both folders are noted the file gets it, or that fails
unfoldable pub MovesOn : List ℕ → List ℕ → List ℕ → Seen → (List ℕ → Bool) → Bool → Log → Log → Type 0
MovesOn root path to seen noted done before after =
    ((done ≡ false) × (after ≡ before))
    ⊎ ((ready : Log) × Prepares (length root + 1) (path_of root to) noted before ready
    × (((done ≡ false) × EndsOnWay (length root + 1) (path_of root to) before ready × (after ≡ ready))
    ⊎ (LeadsTo (length root + 1) (path_of root to) noted before ready × IsTrue (noted (folder_of path)) × MovesFile path (path_of root to) seen done ready after)))

-- a file is looked for under a name
unfoldable pub FindsNamed : {F E : Type 0} → List ℕ → List ℕ → Hold F → Result (Option Seen) E → Log → Log → Type 0
FindsNamed root name hold (Ok (Some seen)) before after = HasFile root name hold seen before after
FindsNamed root name hold (Ok None) before after = LacksFile root name hold before after
FindsNamed root name hold (Err error) before after = LooksInVain root name hold before after

-- a folder is made, opened and locked, and what that answers: none where something stood there by now or another vault holds it
unfoldable pub MakesHeld : {F : Type 0} → List ℕ → Result (Option F) Error → Log → Log → Type 0
MakesHeld root (Ok (Some file)) before after = Locks (with_slash root) true (and_call (Made root Done) before) after
MakesHeld root (Ok None) before after =
    ((cause : Cause) × (cause.kind ≡ AlreadyExists) × (after ≡ and_call (Made root (Failed cause)) before)) ⊎ Locks (with_slash root) false (and_call (Made root Done) before) after
MakesHeld root (Err error) before after =
    (((cause_of error).kind ≢ AlreadyExists) × (after ≡ and_call (Made root (Failed (cause_of error))) before))
    ⊎ LocksAndLeaves root (with_slash root) (cause_of error) (and_call (Made root Done) before) after

-- a look for whether a path is another name of a file, and what it answers
abbrev pub LooksForOther : Seen → List ℕ → Result Bool Error → Log → Log → Type 0
LooksForOther seen path (Ok true) before after = SeesOther seen path before after
LooksForOther seen path (Ok false) before after = SeesNoOther seen path before after
LooksForOther seen path (Err error) before after = (1 < seen.links) × (IsNothing (cause_of error) → ⊥) × (after ≡ and_call (Looked path (Err (cause_of error))) before)

-- the vault's folder, which wasn't there, isn't made and held: it is refused, or its path is too long, or the last call failed so, or the last call but one did
-- and the folder went again
unfoldable pub FailsToMake : {F : Type 0} → List ℕ → Hold F → Cause → Log → Log → Type 0
FailsToMake root hold cause before after =
    ((cause.kind ≡ InvalidInput) × ((hold ≡ Refused) ⊎ (PATH_ROOM ≤ length root + 1)))
    ⊎ EndsFailed cause before after
    ⊎ ((failed : Log) × (gone : Outcome) × EndsFailed cause before failed × (after ≡ and_call (Unmade root gone) failed))

-- a file that was found isn't moved to a name: the name isn't served, or the way isn't made, or the last call failed
unfoldable pub FailsToMoveOn : {F : Type 0} → List ℕ → List ℕ → Hold F → Cause → Log → Log → Type 0
FailsToMoveOn root to hold cause before after = ((cause.kind ≡ InvalidInput) × IsRefused root to hold) ⊎ FailsOnWay cause before after

-- the last call failed for this cause; or the last but one did, and the last one removed what stands where the file of a name is made
abbrev pub FailsOrRemoves : List ℕ → Cause → Log → Log → Type 0
FailsOrRemoves at cause before after =
    EndsFailed cause before after ⊎ ((failed : Log) × (gone : Outcome) × EndsFailed cause before failed × (after ≡ and_call (Removed at gone) failed))

-- whether something is lost behind a sync that ended so, where it was or wasn't before
abbrev pub broken_by : {T : Type 0} → Result T Unsynced → Bool → Bool
broken_by (Ok x) broken = broken
broken_by (Err unsynced) broken = broken || is_lost unsynced

-- nothing more is called, or a folder couldn't be made
abbrev pub MakesNot : List ℕ → Log → Log → Type 0
MakesNot folder before after = (after ≡ before) ⊎ ((cause : Cause) × (after ≡ and_call (Made folder (Failed cause)) before))
