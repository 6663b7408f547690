-- How folders are made durable.
use Rattle.std.specs.Prelude.{ℕ, true, ◌≡◌, ◌⊎◌, ◌≤◌, ◌+◌, List, [], ◌∷◌, ◌++◌, codes, length}
use Rattle.cv_system.specs.Calls.{Cause, Call, Log, Outcome, and_call, and_calls, Done, Failed, Opened, Removed, Synced}
use Rattle.cv_system.specs.declared.path_buffer.TheConstants.{PATH_ROOM}
use Rattle.cv_system.specs.declared.syncing.Unsynced.{Unsynced}
use Rattle.cv_system.specs.declared.syncing.Unsynced.TheVariants.{NotOpened, Lost}
use Rattle.cv_system.specs.Passed.{Passes, StopsAt}
use Rattle.cv_system.specs.Steps.{Tries}

-- each of these folders is opened and made durable, in their order
abbrev pub syncs : List (List ℕ) → List (Outcome → Call)
syncs [] = []
syncs (folder ∷ folders) = Opened folder ∷ Synced folder ∷ syncs folders

-- a folder isn't made durable: the system lost what was written, or it couldn't be opened
abbrev pub FailsToSync : List ℕ → Unsynced → Log → Log → Type 0
FailsToSync folder Lost before after = (cause : Cause) × (after ≡ and_calls (Opened folder Done ∷ Synced folder (Failed cause) ∷ []) before)
FailsToSync folder NotOpened before after = (cause : Cause) × (after ≡ and_call (Opened folder (Failed cause)) before)

-- the last calls failed to make a folder durable
abbrev pub EndsBy : Unsynced → Log → Type 0
EndsBy unsynced after = (folder : List ℕ) × (before : Log) × FailsToSync folder unsynced before after

-- the own file of a folder is removed, if it could be; none is where its path is longer than the system takes
abbrev pub ClearsFolder : List ℕ → Log → Log → Type 0
ClearsFolder folder before after =
    ((PATH_ROOM ≤ length folder + 11) × (after ≡ before)) ⊎ ((gone : Outcome) × (after ≡ and_call (Removed (folder ++ codes ".cvkit-next") gone) before))

-- a folder is settled: its own file is removed, and it is opened and made durable
abbrev pub SettlesFolder : List ℕ → Log → Log → Type 0
SettlesFolder folder before after = (cleared : Log) × ClearsFolder folder before cleared × Tries (syncs (folder ∷ [])) true cleared after

-- or it is passed over, since it can't be opened
abbrev pub PassesFolder : List ℕ → Log → Log → Type 0
PassesFolder folder before after =
    (cleared : Log) × (cause : Cause) × ClearsFolder folder before cleared × Passes folder cause (and_call (Opened folder (Failed cause)) cleared) after

-- the folder at the top of a walk isn't settled
abbrev pub FailsTop : List ℕ → Unsynced → Log → Log → Type 0
FailsTop folder unsynced before after = (cleared : Log) × ClearsFolder folder before cleared × FailsToSync folder unsynced cleared after

-- nor is a folder below it: what was written in it is lost, or it can't be opened and isn't passed over
abbrev pub FailsFolder : List ℕ → Unsynced → Log → Log → Type 0
FailsFolder folder Lost before after = FailsTop folder Lost before after
FailsFolder folder NotOpened before after =
    (cleared : Log) × (cause : Cause) × ClearsFolder folder before cleared × StopsAt folder cause (and_call (Opened folder (Failed cause)) cleared) after
