-- Making a repository: its first revision.
use Rattle.std.specs.Prelude.{◌≡◌, ◌≢◌, ⊤, ℕ, Bool, List, [], ◌∷◌, None, Some}
use Rattle.std.specs.List.{Contains}
use Rattle.std.specs.declared.option.Option.{Option}
use Rattle.std.specs.declared.result.Result.{Result}
use Rattle.std.specs.declared.result.Result.TheVariants.{Ok, Err}
use Rattle.cv_base.specs.ObjectId.{file_name}
use Rattle.cv_base.specs.declared.object.Object.{Object}
use Rattle.cv_vault.specs.Names.{Name, on_way}
use Rattle.cv_vault.specs.Disk.{Disk, File, Files, Image, IsCalm, files_now}
use Rattle.cv_vault.specs.Moments.{LeavesOnly, OnlyReads}
use Rattle.cv_vault.specs.Walks.{Walks, Gains, Within, Nothing}
use Rattle.cv_objects.specs.Batches.{HaveHashes, ShownIn}
use Rattle.cv_objects.specs.declared.store_fault.StoreFault.TheVariants as store_fault
use Rattle.cv_swap.specs.First.{first_revision, first_batch}
use Rattle.cv_swap.specs.Publishing.{BringsFirst}
use Rattle.cv_swap.specs.Stands.{HasRevisions, Publishes, head_name, head_of, epoch_name, epoch_text}
use Rattle.cv_swap.specs.declared.init_fault.InitFault.{InitFault}
use Rattle.cv_swap.specs.declared.init_fault.InitFault.TheVariants.{Exists, Collision, Failed, Damaged, NoMemory}

-- the files stand for the first revision, made at this moment, and for no other
abbrev pub StandsFirst : List ℕ → (List ℕ → List ℕ → Bool) → ℕ → Files → Type 0
StandsFirst name is_seal now f = HasRevisions name is_seal (first_revision now ∷ []) 0 f

-- what the head of the first revision reaches is there: its objects, and the first epoch
pub record HasFirst (now : ℕ) (f : Files) : Type 0 where
  pub objects : (o : Object) → Contains (first_batch now) o → f (file_name o.id) ≡ Some o.bytes
  pub epoch : f epoch_name ≡ Some (epoch_text 0)

-- what making a repository brings: what comes before the head of the first revision, and that head
pub data BringsRevision (name : List ℕ) (is_seal : List ℕ → List ℕ → Bool) (now : ℕ) (d : Disk) (n : Name) (f : File) : Type 0 where
  before_it : (brings : BringsFirst d (first_batch now) n f) → BringsRevision name is_seal now d n f
  the_head : (at : n ≡ head_name) (says : Publishes name is_seal f (head_of (first_revision now))) → BringsRevision name is_seal now d n f

-- what a crash leaves while a repository is made: what might have been left before with some of what comes before the head, or the head
-- with its objects and the first epoch; and then, where no object was damaged, the files stand for the first revision
pub data WhileInit (name : List ℕ) (is_seal : List ℕ → List ℕ → Bool) (now : ℕ) (d : Disk) (f : Files) : Type 0 where
  not_yet : (within : Within on_way (BringsFirst d (first_batch now)) d f) → WhileInit name is_seal now d f
  whole : (within : Within on_way (BringsRevision name is_seal now d) d f) (head : Publishes name is_seal (f head_name) (head_of (first_revision now))) (has : HasFirst now f)
      (stands : HaveHashes (files_now d) → StandsFirst name is_seal now f) → WhileInit name is_seal now d f

-- what a crash may leave in a making that answers so: where it is refused, what might have been left before, and where memory was wanted,
-- no head
abbrev pub InitLeaves : List ℕ → (List ℕ → List ℕ → Bool) → ℕ → Disk → Result (Unit {0}) InitFault → Files → Type 0
InitLeaves name is_seal now d (Ok u) f = WhileInit name is_seal now d f
InitLeaves name is_seal now d (Err Exists) f = Within on_way Nothing d f
InitLeaves name is_seal now d (Err (Collision id)) f = Within on_way Nothing d f
InitLeaves name is_seal now d (Err Failed) f = WhileInit name is_seal now d f
InitLeaves name is_seal now d (Err (Damaged id found)) f = Within on_way Nothing d f
InitLeaves name is_seal now d (Err NoMemory) f = Within on_way (BringsFirst d (first_batch now)) d f

-- what the answer says of the files as they stood
abbrev pub Answers : Disk → ℕ → Result (Unit {0}) InitFault → Type 0
Answers d now (Ok u) = (d head_name).now ≡ None
Answers d now (Err Exists) = (d head_name).now ≢ None
Answers d now (Err (Collision id)) = ((d head_name).now ≡ None) × ShownIn d (first_batch now) (store_fault.Collision id)
Answers d now (Err Failed) = Unit {0}
Answers d now (Err (Damaged id found)) = ((d head_name).now ≡ None) × ShownIn d (first_batch now) (store_fault.Damaged id found)
Answers d now (Err NoMemory) = Unit {0}

-- the head, the objects and the epoch of the first revision are there for sure, and nothing else came; where no object was damaged,
-- each image stands for it
pub record IsMade (name : List ℕ) (is_seal : List ℕ → List ℕ → Bool) (now : ℕ) (d d' : Disk) : Type 0 where
  pub calm : IsCalm d'
  pub head : Publishes name is_seal (d' head_name).now (head_of (first_revision now))
  pub has : HasFirst now (files_now d')
  pub gains : Gains on_way (BringsRevision name is_seal now d) d d'
  pub whole : HaveHashes (files_now d) → (f : Files) → Image d' f → StandsFirst name is_seal now f

-- what is left afterwards: after a refusal nothing came, and after want of memory no head
abbrev pub Makes : List ℕ → (List ℕ → List ℕ → Bool) → ℕ → Disk → Result (Unit {0}) InitFault → Disk → Type 0
Makes name is_seal now d (Ok u) d' = IsMade name is_seal now d d'
Makes name is_seal now d (Err Exists) d' = d' ≡ d
Makes name is_seal now d (Err (Collision id)) d' = Gains on_way Nothing d d'
Makes name is_seal now d (Err Failed) d' = Gains on_way (BringsRevision name is_seal now d) d d'
Makes name is_seal now d (Err (Damaged id found)) d' = Gains on_way Nothing d d'
Makes name is_seal now d (Err NoMemory) d' = Gains on_way (BringsFirst d (first_batch now)) d d'

-- only this text comes to the manifest's name
abbrev pub OnlyText : List ℕ → Name → File → Type 0
OnlyText text n f = n ≡ head_name → f ≡ Some text

-- whatever is answered, no manifest came but this text, and a crash leaves no other
abbrev pub WritesHead : {V : Type 0} (disk : V → Option Disk) (count : V → ℕ) (left : V → ℕ → Files → Type 0) → List ℕ → Disk → V → V → Type 0
WritesHead disk count left text d v v' = Walks disk count left on_way (OnlyText text) (λ end. ⊤) d v v'

-- what making a repository does, whatever it answers: where there is a manifest it only reads
pub record MakesFirst {V : Type 0} (disk : V → Option Disk) (count : V → ℕ) (left : V → ℕ → Files → Type 0) (name : List ℕ) (is_seal : List ℕ → List ℕ → Bool) (now : ℕ) (d : Disk)
    (r : Result (Unit {0}) InitFault) (v v' : V) : Type 0 where
  pub end : Disk
  pub told : disk v' ≡ Some end
  pub answers : Answers d now r
  pub untouched : (d head_name).now ≢ None → OnlyReads disk count left v v'
  pub makes : Makes name is_seal now d r end
  pub leaves : LeavesOnly count left (InitLeaves name is_seal now d r) v v'

-- the same of a call that hands the vault back
abbrev pub InitsIn : {V : Type 0} (disk : V → Option Disk) (count : V → ℕ) (left : V → ℕ → Files → Type 0) → List ℕ → (List ℕ → List ℕ → Bool) → ℕ → Disk → V → Result V (InitFault × V) → Type 0
InitsIn disk count left name is_seal now d v (Ok v') = MakesFirst disk count left name is_seal now d (Ok tt) v v'
InitsIn disk count left name is_seal now d v (Err e) = MakesFirst disk count left name is_seal now d (Err e.0) v e.1

abbrev pub vault_in : {V : Type 0} → Result V (InitFault × V) → V
vault_in (Ok v) = v
vault_in (Err e) = e.1

abbrev pub IsVaults : {V : Type 0} → Result V (InitFault × V) → Type 0
IsVaults (Ok v) = ⊥
IsVaults (Err e) = e.0 ≡ Failed
