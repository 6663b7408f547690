-- What preparing a revision, and swapping it in, leaves on the disk. What only this crate's own functions say.
use Rattle.std.specs.Prelude.{◌≡◌, ◌≢◌, ℕ, List, Some}
use Rattle.std.specs.declared.option.Option.{Option}
use Rattle.std.specs.declared.result.Result.{Result}
use Rattle.std.specs.declared.result.Result.TheVariants.{Ok, Err}
use Rattle.cv_base.specs.declared.object.Object.{Object}
use Rattle.cv_vault.specs.declared.vault.VaultFault.{VaultFault}
use Rattle.cv_vault.specs.Names.{Name, on_way}
use Rattle.cv_vault.specs.Disk.{Disk, File, Files}
use Rattle.cv_vault.specs.Moments.{LeavesOnly}
use Rattle.cv_vault.specs.Walks.{Gains, Within, Nothing, ComesTo}
use Rattle.cv_vault.specs.Replace.{IsSure}
use Rattle.cv_objects.specs.Batches.{Has, IsRefused}
use Rattle.cv_objects.specs.declared.store_fault.StoreFault.{StoreFault}
use Rattle.cv_objects.specs.declared.store_fault.StoreFault.TheVariants.{Collision, Failed, Damaged, NoMemory}
use Rattle.cv_swap.specs.Stands.{head_name, head_way, epoch_name, epoch_text}
use Rattle.cv_swap.specs.StandsInner.{epoch_way}
use Rattle.cv_swap.specs.Publishing.{BringsFirst}

-- the first epoch and a manifest are on their way, and every other name is as it was
pub record AreBeside (d : Disk) (manifest : List ℕ) (d' : Disk) : Type 0 where
  pub epoch : (d' epoch_way).now ≡ Some (epoch_text 0)
  pub head : (d' head_way).now ≡ Some manifest
  pub others : (n : Name) → n ≢ epoch_way → n ≢ head_way → d' n ≡ d n

abbrev pub PutBeside : Disk → List ℕ → {X : Type 0} → Result X VaultFault → Disk → Type 0
PutBeside d manifest (Ok x) d' = AreBeside d manifest d'
PutBeside d manifest (Err fault) d' = Unit {0}

-- all of a first revision but its head stands for sure
pub record AreBuilt (batch : List Object) (d' : Disk) : Type 0 where
  pub sure : IsSure epoch_name (epoch_text 0) d'
  pub has : Has d' batch

-- what building it, with its manifest on its way, leaves: after a refusal nothing came
abbrev pub Built : Disk → List Object → List ℕ → {X : Type 0} → Result X StoreFault → Disk → Type 0
Built d batch manifest (Ok x) d' = AreBuilt batch d' × IsSure head_way manifest d'
Built d batch manifest (Err (Collision id)) d' = IsRefused d batch (Collision id) d'
Built d batch manifest (Err Failed) d' = Unit {0}
Built d batch manifest (Err (Damaged id found)) d' = IsRefused d batch (Damaged id found) d'
Built d batch manifest (Err NoMemory) d' = Unit {0}

-- while a first revision comes, a crash leaves what might have been left before with some of what comes before the head, or, with all
-- of that for sure, the head or none
pub data WhileFirst (d : Disk) (batch : List Object) (manifest : List ℕ) (f : Files) : Type 0 where
  before_head : (within : Within on_way (BringsFirst d batch) d f) → WhileFirst d batch manifest f
  with_head : (built : Disk) (are : AreBuilt batch built) (gains : Gains on_way (BringsFirst d batch) d built) (within : Within on_way (ComesTo head_name (Some manifest)) built f) → WhileFirst d batch manifest f

-- the first revision is there for sure
pub record IsInit (d : Disk) (batch : List Object) (manifest : List ℕ) (d' : Disk) : Type 0 where
  pub built : Disk
  pub are : AreBuilt batch built
  pub gains : Gains on_way (BringsFirst d batch) d built
  pub comes : Gains on_way (ComesTo head_name (Some manifest)) built d'
  pub sure : IsSure head_name manifest d'

-- what comes with a first revision: what comes before its head, or the head
pub data BringsAll (d : Disk) (batch : List Object) (manifest : List ℕ) (n : Name) (f : File) : Type 0 where
  comes_before : (brings : BringsFirst d batch n f) → BringsAll d batch manifest n f
  comes_last : (comes : ComesTo head_name (Some manifest) n f) → BringsAll d batch manifest n f

-- what making it leaves: after a refusal nothing came, and after want of memory no head
abbrev pub Inited : Disk → List Object → List ℕ → {X : Type 0} → Result X StoreFault → Disk → Type 0
Inited d batch manifest (Ok x) d' = IsInit d batch manifest d'
Inited d batch manifest (Err (Collision id)) d' = IsRefused d batch (Collision id) d'
Inited d batch manifest (Err Failed) d' = Gains on_way (BringsAll d batch manifest) d d'
Inited d batch manifest (Err (Damaged id found)) d' = IsRefused d batch (Damaged id found) d'
Inited d batch manifest (Err NoMemory) d' = Gains on_way (BringsFirst d batch) d d'

-- what a crash may leave in a making that answers so: after a refusal what might have been left before, and after want of memory no head
abbrev pub FirstLeaves : Disk → List Object → List ℕ → {X : Type 0} → Result X StoreFault → Files → Type 0
FirstLeaves d batch manifest (Ok x) f = WhileFirst d batch manifest f
FirstLeaves d batch manifest (Err (Collision id)) f = Within on_way Nothing d f
FirstLeaves d batch manifest (Err Failed) f = WhileFirst d batch manifest f
FirstLeaves d batch manifest (Err (Damaged id found)) f = Within on_way Nothing d f
FirstLeaves d batch manifest (Err NoMemory) f = Within on_way (BringsFirst d batch) d f

-- what making a first revision does, whatever it answers
pub record Inits {V : Type 0} (disk : V → Option Disk) (count : V → ℕ) (left : V → ℕ → Files → Type 0) (d : Disk) (batch : List Object) (manifest : List ℕ) {X : Type 0} (r : Result X StoreFault) (v v' : V) : Type 0 where
  pub end : Disk
  pub told : disk v' ≡ Some end
  pub leaves : LeavesOnly count left (FirstLeaves d batch manifest r) v v'
  pub is : Inited d batch manifest r end
