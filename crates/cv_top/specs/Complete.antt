-- How the program may end where no count of its outside rose.
use Rattle.std.specs.Prelude.{◌≡◌, ◌≢◌, ℕ, Bool, true, false, List, []}
use Rattle.std.specs.declared.option.Option.{Option}
use Rattle.std.specs.declared.option.Option.TheVariants.{None, Some}
use Rattle.cv_base.specs.Counts.{Rose}
use Rattle.cv_base.specs.declared.id.ObjectId.{ObjectId}
use Rattle.cv_vault.specs.Disk.{Disk, files_now}
use Rattle.cv_objects.specs.Batches.{ShownIn}
use Rattle.cv_objects.specs.declared.store_fault.StoreFault.TheVariants.{Collision, Damaged}
use Rattle.cv_swap.specs.First.{first_batch}
use Rattle.cv_swap.specs.Kept.{Kept}
use Rattle.cv_swap.specs.Stands.{Stands, head_name}
use Rattle.cv_top.specs.Runs.{HasKeys}
use Rattle.cv_top.specs.Seal.{is_seal_by}
use Rattle.cv_words.specs.Words.{Asks}
use Rattle.cv_top.specs.declared.status.RepositoryFault.{RepositoryFault}
use Rattle.cv_top.specs.declared.status.RepositoryFault.TheVariants.{EpochsSpent}
use Rattle.cv_top.specs.declared.status.Status.{Status}
use Rattle.cv_top.specs.declared.status.Status.TheVariants.{Done, Repository, JournalFull, BadRequest, OutOfMemory}
use Rattle.cv_words.specs.declared.words.Command.TheVariants.{Init, Stdio}

-- a count of faults didn't rise
abbrev pub IsSteady : ℕ → ℕ → Type 0
IsSteady before now = Rose 1 before now → ⊥

abbrev pub is_spent : RepositoryFault → Bool
is_spent EpochsSpent = true
is_spent other = false

-- by how the session ended, or the repository was opened as often as can be, or memory was wanted
abbrev pub ends_served : Status → Bool
ends_served Done = true
ends_served BadRequest = true
ends_served JournalFull = true
ends_served (Repository fault) = is_spent fault
ends_served OutOfMemory = true
ends_served other = false

-- it was made, or memory was wanted
abbrev pub ends_made : Status → Bool
ends_made Done = true
ends_made OutOfMemory = true
ends_made other = false

-- there is no manifest, and no bytes against an object of a first revision, whenever that is made
pub record IsVacant (d : Disk) : Type 0 where
  pub head : (d head_name).now ≡ None
  pub same : (now : ℕ) (id : ObjectId) → ShownIn d (first_batch now) (Collision id) → ⊥
  pub undamaged : (now : ℕ) (id : ObjectId) (found : List ℕ) → ShownIn d (first_batch now) (Damaged id found) → ⊥

-- the two commands, under good keys and a seal, over a disk that lets them do their work
pub record Completes (words : List (List ℕ)) (keys seal : List ℕ) (disk : Option Disk) (status : Status) : Type 0 where
  pub serves : (name : List ℕ) → Asks words (Stdio name) → HasKeys (Stdio name) keys → seal ≢ []
      → (d : Disk) (k : Kept) → disk ≡ Some d → Stands name (is_seal_by seal) (files_now d) k → ends_served status ≡ true
  pub makes : (name : List ℕ) → Asks words (Init name) → seal ≢ [] → (d : Disk) → disk ≡ Some d → IsVacant d → ends_made status ≡ true
