-- How a sync of a vault makes folders durable.
use Rattle.std.specs.Prelude.{ℕ, Bool, true, false, ◌≡◌, ◌⊎◌, ◌||◌, List, [], ◌∷◌}
use Rattle.cv_system.specs.Calls.{Done, Ended, Log, and_call}
use Rattle.cv_folder.specs.declared.hold.Hold.{Hold}
use Rattle.cv_folder.specs.declared.hold.Hold.TheVariants.{Absent}
use Rattle.cv_folder.specs.Hold.{IsHeld, is_unasked}
use Rattle.cv_system.specs.Names.{folder_of}
use Rattle.cv_system.specs.Steps.{Tries}
use Rattle.cv_system.specs.Syncs.{syncs}
use Rattle.cv_system.specs.Walks.{SettlesAll}
use Rattle.cv_system.specs.Ways.{SyncsAllWays, done}

-- where all that an earlier process left is to be made durable, the files on their way are first, then the folder above the root, and then all folders
-- from the root on
unfoldable pub SettlesFirst : List ℕ → Bool → Log → Log → Type 0
SettlesFirst root false before after = after ≡ before
SettlesFirst root true before after =
    (ways above : Log) × SyncsAllWays root done before ways × Tries (syncs (folder_of root ∷ [])) true ways above × SettlesAll root above after

-- a sync that is done: the syncs that were begun are ended, then all that an earlier process left is made durable, if it is to be, and then each folder
-- that was noted
unfoldable pub SyncsAll : List ℕ → Bool → List (List ℕ) → Log → Log → Type 0
SyncsAll root is_unsettled noted before after =
    (settled : Log) × SettlesFirst root is_unsettled (and_call (Ended Done) before) settled × Tries (syncs noted) true settled after

-- the same in a vault that has this of its folder: where none is there nothing is called, and all folders are made durable in the call by which the vault
-- comes to hold the folder. What the vault had of its folder and has, whether all were unsettled before the call, and which were noted
unfoldable pub SyncsHeld : {F : Type 0} → List ℕ → Hold F → Hold F → Bool → List (List ℕ) → Log → Log → Type 0
SyncsHeld root was hold is_unsettled noted before after =
    ((hold ≡ Absent) × (after ≡ before))
    ⊎ (IsHeld hold × SyncsAll root (is_unsettled || is_unasked was) noted before after)
