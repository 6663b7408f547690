-- What a call of a vault over a folder leaves to the next sync, and which calls of the system it makes.
use Rattle.std.specs.Prelude.{ℕ, ◌≡◌, ◌≢◌, ◌+◌, false, List, [], length, map, min, None, Result, Ok, Err, IsTrue, string_bytes, ⊤}
use Rattle.cv_base.specs.Counts.{last_count}
use Rattle.cv_vault.specs.Disk.{Disk}
use Rattle.cv_vault.specs.Moments.{Calls}
use Rattle.cv_vault.specs.declared.vault.VaultFault.{VaultFault}
use Rattle.cv_vault.specs.declared.vault.VaultFault.TheVariants.{Failed, NoMemory}
use Rattle.cv_folder.specs.declared.folder_vault.FolderVault.{FolderVault}
use Rattle.cv_folder.specs.declared.hold.Hold.{Hold}
use Rattle.cv_folder.specs.declared.hold.Hold.TheVariants.{Absent, Refused, Unasked}
use Rattle.cv_system.specs.Calls.{Log}
use Rattle.cv_folder.specs.Hold.{Asks, IsHeld, Unsettles}
use Rattle.cv_system.specs.Names.{folder_of, is_name, path_of}
use Rattle.cv_folder.specs.Noted.{Keeps, NotesOnly, is_noted}
use Rattle.cv_folder.specs.Syncs.{SyncsHeld}
use Rattle.cv_folder.specs.Writes.{IsAbove}

-- the folder of a name of the vault is noted
abbrev pub Notes : {S F N : Type 0} → FolderVault S F N → List ℕ → Type 0
Notes vault name = IsTrue (is_noted vault.folders.items (folder_of (path_of (string_bytes vault.root) name)))

-- once it was asked for, what the vault has of its folder stays
abbrev pub Holds : {F : Type 0} → Hold F → Hold F → Type 0
Holds before after = before ≢ Unasked → after ≡ before

-- the same, but that a folder that wasn't there may be made
abbrev pub HoldsOrMakes : {F : Type 0} → Hold F → Hold F → Type 0
HoldsOrMakes before after = before ≢ Absent → Holds before after

-- a call that may be answered: this is a name, and the vault's folder isn't refused
abbrev pub Serves : {S F N : Type 0} → FolderVault S F N → List ℕ → Type 0
Serves vault name = IsTrue (is_name name) × (vault.hold ≢ Refused)

-- a call that makes no folder of the vault: it is held as it was, and where it is held for the first time all in it is unsettled
abbrev pub HoldsFirst : {S F N : Type 0} → FolderVault S F N → FolderVault S F N → Type 0
HoldsFirst before after = Holds before.hold after.hold × Unsettles before.hold after.hold after.is_unsettled

-- a call that changes no file: the vault's folder has the same path, the same folders are noted, and what was unsettled or lost is so still
abbrev pub Stays : {S F N : Type 0} → FolderVault S F N → FolderVault S F N → Type 0
Stays before after =
    (after.root ≡ before.root) × (after.folders ≡ before.folders) × (IsTrue before.is_unsettled → IsTrue after.is_unsettled) × (after.broken ≡ before.broken)

-- a call that may change files: the same, but that folders may be noted, and such ones alone
abbrev pub Adds : {S F N : Type 0} → (List ℕ → Type 0) → FolderVault S F N → FolderVault S F N → Type 0
Adds IsSuch before after =
    (after.root ≡ before.root) × Keeps before.folders.items after.folders.items × NotesOnly IsSuch before.folders.items after.folders.items
    × (IsTrue before.is_unsettled → IsTrue after.is_unsettled) × (after.broken ≡ before.broken)

-- a folder in which a name of the vault stands, or a folder on the way to it
abbrev pub IsAboveName : {S F N : Type 0} → FolderVault S F N → List ℕ → List ℕ → Type 0
IsAboveName vault name folder = IsAbove (length (string_bytes vault.root) + 1) (path_of (string_bytes vault.root) name) folder

-- a sync that failed: as a call that changes no file, but that more may be lost
abbrev pub Fails : {S F N : Type 0} → FolderVault S F N → FolderVault S F N → Type 0
Fails before after =
    (after.root ≡ before.root) × (after.folders ≡ before.folders) × (IsTrue before.is_unsettled → IsTrue after.is_unsettled) × (IsTrue before.broken → IsTrue after.broken)

-- the count of faults behind one: Failed is counted, up to the last value of a count
abbrev pub with_fault : VaultFault → ℕ → ℕ
with_fault Failed count = min (count + 1) last_count
with_fault NoMemory count = count

-- the count behind a call that answered so
abbrev pub faults_after : {A : Type 0} → Result A VaultFault → ℕ → ℕ
faults_after (Ok x) count = count
faults_after (Err fault) count = with_fault fault count

-- the call of a vault that tells nothing of its disk, as that of any vault. Of such a vault it says nothing: it is true of any two
abbrev pub Untold : {V : Type 0} → (Disk → Disk → Type 0) → V → V → Type 0
Untold R before after = Calls (λ _. None) (λ _. 0) (λ _ _ _. ⊤) R before after

-- no call of the system was made
abbrev pub IsUncalled : {S F N : Type 0} → (S → Log) → FolderVault S F N → FolderVault S F N → Type 0
IsUncalled log before after = log after.system ≡ log before.system

-- a call that does nothing: it calls nothing, and the vault has, notes and knows what it did
abbrev pub Rests : {S F N : Type 0} → (S → Log) → FolderVault S F N → FolderVault S F N → Type 0
Rests log before after = IsUncalled log before after × (after.hold ≡ before.hold) × Stays before after

-- no call but those by which the vault asks for its folder, if it hadn't yet
unfoldable pub AsksAlone : {S F N : Type 0} → (S → Log) → FolderVault S F N → FolderVault S F N → Type 0
AsksAlone log before after = Asks (string_bytes before.root) before.hold after.hold (log before.system) (log after.system)

-- the vault asks for its folder, if it hadn't yet, and then it acts so
unfoldable pub Acts : {S F N : Type 0} → (S → Log) → (Log → Log → Type 0) → FolderVault S F N → FolderVault S F N → Type 0
Acts log Act before after =
    (asked : Log) × Asks (string_bytes before.root) before.hold after.hold (log before.system) asked × Act asked (log after.system)

-- what a sync that is done leaves to the next: nothing where the folder is held, and all that there was where none is there
abbrev pub Clears : {S F N : Type 0} → FolderVault S F N → FolderVault S F N → Type 0
Clears before after =
    (IsHeld after.hold → (after.folders.items ≡ []) × (after.is_unsettled ≡ false)) × (after.hold ≡ Absent → Stays before after)

-- a sync that is done: the vault asks for its folder, if it hadn't yet, and makes durable what was noted, or all
abbrev pub SyncsDone : {S F N : Type 0} → (S → Log) → FolderVault S F N → FolderVault S F N → Type 0
SyncsDone log before after =
    Acts log (SyncsHeld (string_bytes before.root) before.hold after.hold before.is_unsettled (map string_bytes before.folders.items)) before after
