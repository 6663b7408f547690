-- How a sync fails.
use Rattle.std.specs.Prelude.{ℕ, Bool, true, false, ◌≡◌, ◌⊎◌, ◌||◌, List, [], ◌∷◌, IsTrue, map, string_bytes, Err}
use Rattle.cv_folder.specs.declared.folder_vault.FolderVault.{FolderVault}
use Rattle.cv_folder.specs.declared.hold.Hold.{Hold}
use Rattle.cv_folder.specs.declared.hold.Hold.TheVariants.{Refused, Unasked}
use Rattle.cv_folder.specs.FolderVault.{Acts, Rests}
use Rattle.cv_folder.specs.Hold.{IsHeld, is_unasked}
use Rattle.cv_folder.specs.Syncs.{SettlesFirst}
use Rattle.cv_system.specs.Calls.{Cause, Done, Ended, Failed, Log, and_call}
use Rattle.cv_system.specs.Names.{folder_of}
use Rattle.cv_system.specs.Steps.{Tries}
use Rattle.cv_system.specs.Syncs.{EndsBy, FailsToSync, syncs}
use Rattle.cv_system.specs.Walks.{FailsAll}
use Rattle.cv_system.specs.Ways.{SyncsAllWays, done}
use Rattle.cv_system.specs.declared.syncing.Unsynced.{Unsynced}
use Rattle.cv_system.specs.declared.syncing.Unsynced.TheVariants.{Lost, NotOpened}

-- all that an earlier process left is to be made durable, and something isn't: a file on its way, the folder above the root, or a folder that the walk from
-- the root on comes to
unfoldable pub FailsFirst : List ℕ → Bool → Unsynced → Log → Log → Type 0
FailsFirst root false unsynced before after = ⊥
FailsFirst root true unsynced before after =
    SyncsAllWays root (Err unsynced) before after
    ⊎ ((ways : Log) × SyncsAllWays root done before ways
    × (FailsToSync (folder_of root) unsynced ways after
    ⊎ ((above : Log) × Tries (syncs (folder_of root ∷ [])) true ways above × FailsAll root unsynced above after)))

-- a sync ends before all is durable: the system lost something that was written to a file whose sync was begun, or so, or with a folder that was noted
unfoldable pub SyncsNotAll : List ℕ → Bool → List (List ℕ) → Unsynced → Log → Log → Type 0
SyncsNotAll root is_unsettled noted unsynced before after =
    ((unsynced ≡ Lost) × (cause : Cause) × (after ≡ and_call (Ended (Failed cause)) before))
    ⊎ FailsFirst root is_unsettled unsynced (and_call (Ended Done) before) after
    ⊎ ((settled : Log) × SettlesFirst root is_unsettled (and_call (Ended Done) before) settled × Tries (syncs noted) false settled after × EndsBy unsynced after)

-- whether a sync that ends so lost something
abbrev pub is_lost : Unsynced → Bool
is_lost NotOpened = false
is_lost Lost = true

-- a sync fails in a vault that has this of its folder: where it isn't held nothing is called, and nothing is lost; where it is, something is lost exactly
-- where the system told so. What the vault had of its folder and has, and whether something is lost
unfoldable pub SyncsInVain : {F : Type 0} → List ℕ → Hold F → Hold F → Bool → List (List ℕ) → Bool → Log → Log → Type 0
SyncsInVain root was hold is_unsettled noted lost before after =
    (((hold ≡ Unasked) ⊎ (hold ≡ Refused)) × (lost ≡ false) × (after ≡ before))
    ⊎ (IsHeld hold × (unsynced : Unsynced) × (lost ≡ is_lost unsynced) × SyncsNotAll root (is_unsettled || is_unasked was) noted unsynced before after)

-- a sync that failed: where something was lost before it does nothing; else the vault asks for its folder, if it hadn't yet, and the sync ends in vain
unfoldable pub FailsSync : {S F N : Type 0} → (S → Log) → FolderVault S F N → FolderVault S F N → Type 0
FailsSync log before after =
    (IsTrue before.broken × Rests log before after)
    ⊎ ((before.broken ≡ false)
    × Acts log (SyncsInVain (string_bytes before.root) before.hold after.hold before.is_unsettled (map string_bytes before.folders.items) after.broken) before after)
