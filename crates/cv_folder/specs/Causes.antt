-- Why a call of a vault over a folder fails.
use Rattle.std.specs.Prelude.{ℕ, ◌≡◌, ◌⊎◌, ◌+◌, ◌≤◌, false, List, length, Ok}
use Rattle.std.specs.declared.io.ErrorKind.TheVariants.{InvalidData, InvalidInput, NotADirectory}
use Rattle.cv_vault.specs.declared.vault.VaultFault.{VaultFault}
use Rattle.cv_vault.specs.declared.vault.VaultFault.TheVariants.{Failed, NoMemory}
use Rattle.cv_folder.specs.declared.hold.Hold.{Hold}
use Rattle.cv_folder.specs.declared.hold.Hold.TheVariants.{Refused}
use Rattle.cv_folder.specs.GoingOn.{GoesOn}
use Rattle.cv_folder.specs.Writes.{made_at}
use Rattle.cv_system.specs.declared.path_buffer.TheConstants.{PATH_ROOM}
use Rattle.cv_system.specs.declared.seen.Seen.{Seen}
use Rattle.cv_system.specs.declared.seen.Kind.TheVariants.{Folder}
use Rattle.cv_system.specs.Calls.{Cause, IsWant, Log, Looked, Outcome, Removed, Unmade, and_call}
use Rattle.cv_system.specs.Looks.{FindsFile, OpensOther}
use Rattle.cv_system.specs.Names.{is_name, next_of, path_of}
use Rattle.cv_system.specs.Steps.{EndsFailed, Grows, IsNothing}

-- a cause is told by this fault: NoMemory tells of want of memory in this process, and Failed of anything else
abbrev pub IsToldBy : VaultFault → Cause → Type 0
IsToldBy Failed cause = IsWant cause → ⊥
IsToldBy NoMemory cause = IsWant cause

-- a fault tells of a cause for which the call may fail
abbrev pub Tells : VaultFault → (Cause → Type 0) → Type 0
Tells fault Fails = (cause : Cause) × IsToldBy fault cause × Fails cause

-- memory is wanted in this process behind calls none of which failed: each was made, or found nothing
abbrev pub WantsMemory : Cause → Log → Log → Type 0
WantsMemory cause before after = IsWant cause × GoesOn IsNothing before after

-- a name isn't served: the vault is refused its folder, the text is no name, or its path is longer than the system takes
abbrev pub IsRefused : {F : Type 0} → List ℕ → List ℕ → Hold F → Type 0
IsRefused root name hold = (hold ≡ Refused) ⊎ (is_name name ≡ false) ⊎ (PATH_ROOM ≤ length (path_of root name))

-- a call about a name fails for this cause: the name isn't served, or the last call that was made failed so
abbrev pub FailsBy : {F : Type 0} → List ℕ → List ℕ → Hold F → Cause → Log → Log → Type 0
FailsBy root name hold cause before after = ((cause.kind ≡ InvalidInput) × IsRefused root name hold) ⊎ EndsFailed cause before after

-- a read fails: so, or what was opened isn't the file that was found
unfoldable pub FailsToRead : {F : Type 0} → List ℕ → List ℕ → Hold F → Cause → Log → Log → Type 0
FailsToRead root name hold cause before after =
    FailsBy root name hold cause before after
    ⊎ ((cause.kind ≡ InvalidData) × (seen : Seen) × (looked found : Log) × Grows before looked
    × FindsFile (length root + 1) (path_of root name) seen looked found × OpensOther (path_of root name) seen found after)

-- the last call was a look that saw what is no folder
abbrev pub SeesNoFolder : Log → Log → Type 0
SeesNoFolder before after =
    (folder : List ℕ) × (seen : Seen) × (looked : Log) × (seen.kind ≡ Folder → ⊥) × Grows before looked × (after ≡ and_call (Looked folder (Ok seen)) looked)

-- a way to a name isn't made: the last call failed, or saw what is no folder where one is wanted
unfoldable pub FailsOnWay : Cause → Log → Log → Type 0
FailsOnWay cause before after = EndsFailed cause before after ⊎ ((cause.kind ≡ NotADirectory) × SeesNoFolder before after)

-- the last call but one failed, and the last one removed what stands where the file of a name is made, or the vault's folder
abbrev pub FailsAndLeaves : List ℕ → List ℕ → Cause → Log → Log → Type 0
FailsAndLeaves root at cause before after =
    (failed : Log) × (gone : Outcome) × EndsFailed cause before failed
    × ((after ≡ and_call (Removed at gone) failed) ⊎ (after ≡ and_call (Unmade root gone) failed))

-- a write fails: the name isn't served, or the path of the own file beside it is longer than the system takes, or the way isn't made, or the file isn't
unfoldable pub FailsToWrite : {F : Type 0} → List ℕ → List ℕ → Hold F → Cause → Log → Log → Type 0
FailsToWrite root name hold cause before after =
    ((cause.kind ≡ InvalidInput) × (IsRefused root name hold ⊎ (PATH_ROOM ≤ length (next_of root name))))
    ⊎ FailsOnWay cause before after ⊎ FailsAndLeaves root (made_at root name) cause before after

-- a rename fails: it is one of a name to itself, or one of the two isn't served, or the way isn't made, or the last call failed
unfoldable pub FailsToMove : {F : Type 0} → List ℕ → List ℕ → List ℕ → Hold F → Cause → Log → Log → Type 0
FailsToMove root from to hold cause before after =
    ((cause.kind ≡ InvalidInput) × ((from ≡ to) ⊎ IsRefused root from hold ⊎ IsRefused root to hold)) ⊎ FailsOnWay cause before after
