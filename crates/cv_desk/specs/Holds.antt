-- When a disk holds a state, and what a crash of it leaves.
use Rattle.std.specs.Prelude.{◌≡◌, ◌⊎◌, ℕ, Bool, true, List}
use Rattle.std.specs.declared.option.Option.{Option}
use Rattle.std.specs.declared.option.Option.TheVariants.{None, Some}
use Rattle.cv_base.specs.Digest.{IsDigest}
use Rattle.cv_base.specs.ObjectId.{file_name}
use Rattle.cv_base.specs.declared.id.ObjectId.{ObjectId}
use Rattle.cv_vault.specs.Disk.{Disk, File, Files, May}
use Rattle.cv_swap.specs.Kept.{Revision, newest, Kept, head_of}
use Rattle.cv_swap.specs.Stands.{Stands, Publishes, head_name, epoch_name, epoch_text}
use Rattle.cv_gate.specs.State.{State, Settled}
use Rattle.cv_gate.specs.Kept.{Pending, Crash}

-- the file says the head of this revision, in the repository of this name whose seals are these
abbrev pub IsHeadOf : List ℕ → (List ℕ → List ℕ → Bool) → Revision → File → Type 0
IsHeadOf name is_seal r f = Publishes name is_seal f (head_of r)

-- it says that of the newest revision of the state, settled one way or the other
pub record SaysNewest (name : List ℕ) (is_seal : List ℕ → List ℕ → Bool) (st : State) (f : File) : Type 0 where
  pub settled : State
  pub settles : Settled st settled
  pub newest_ : Revision
  pub is_newest : newest settled.history ≡ Some newest_
  pub is : IsHeadOf name is_seal newest_ f

-- whatever a crash may leave at each name of the disk stands for the state
pub record Holds (name : List ℕ) (is_seal : List ℕ → List ℕ → Bool) (d : Disk) (st : State) : Type 0 where
  pub head : (f : File) → May (d head_name) f → SaysNewest name is_seal st f
  pub now : (id : ObjectId) → IsDigest id.hash → (d (file_name id)).now ≡ st.shelf id
  pub may : (id : ObjectId) (f : File) → IsDigest id.hash → May (d (file_name id)) f → (f ≡ st.shelf id) ⊎ ((f ≡ None) × (st.loose id ≡ true))
  pub epoch : (f : File) → May (d epoch_name) f → f ≡ Some (epoch_text st.epoch)

-- the files stand for what a crash may leave of the state, with this op in progress or none
pub record Survives (name : List ℕ) (is_seal : List ℕ → List ℕ → Bool) (st : State) (p : Option Pending) (f : Files) : Type 0 where
  pub kept : Kept
  pub stands : Stands name is_seal f kept
  pub crash : Crash st p kept
