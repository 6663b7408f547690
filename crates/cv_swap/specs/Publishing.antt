-- What preparing a revision, and swapping it in, leaves on the disk.
use Rattle.std.specs.Prelude.{ℕ, List, Some}
use Rattle.std.specs.declared.option.Option.{Option}
use Rattle.std.specs.declared.result.Result.{Result}
use Rattle.std.specs.declared.result.Result.TheVariants.{Ok, Err}
use Rattle.cv_base.specs.declared.object.Object.{Object}
use Rattle.cv_vault.specs.Names.{Name}
use Rattle.cv_vault.specs.Disk.{Disk, File, Files, Writes, Syncs}
use Rattle.cv_vault.specs.Moments.{Calls, OnlyReads}
use Rattle.cv_vault.specs.Walks.{ComesTo}
use Rattle.cv_vault.specs.Replace.{IsSure}
use Rattle.cv_objects.specs.Batches.{Has, Brings, IsOne, Stored}
use Rattle.cv_objects.specs.declared.store_fault.StoreFault.{StoreFault}
use Rattle.cv_swap.specs.Stands.{head_way, epoch_name, epoch_text}

-- all is settled, the batch is there, and the manifest is on its way
pub record ArePrepared (batch : List Object) (manifest : List ℕ) (d' : Disk) : Type 0 where
  pub sure : IsSure head_way manifest d'
  pub has : Has d' batch

-- what preparing leaves; where it fails, what a store that fails leaves: after a refusal nothing came, and after another fault some of the
-- batch may have come, but never one of two that differ under one id
abbrev pub Prepared : Disk → List Object → List ℕ → {X : Type 0} → Result X StoreFault → Disk → Type 0
Prepared d batch manifest (Ok x) d' = ArePrepared batch manifest d'
Prepared d batch manifest (Err fault) d' = Stored d batch {X = Unit {0}} (Err fault) d'

-- what bringing a batch to the shelf leaves, where the next sync settles what came: all of it stands there; where it fails, the same
abbrev pub Shelved : Disk → List Object → {X : Type 0} → Result X StoreFault → Disk → Type 0
Shelved d batch (Ok x) d' = IsOne batch × Has d' batch
Shelved d batch (Err fault) d' = Stored d batch {X = Unit {0}} (Err fault) d'

-- what went by is reads, then a write of the manifest on its way, and then a sync (two in a row leave no more than one does)
pub record OnlyPutsHead {V : Type 0} (disk : V → Option Disk) (count : V → ℕ) (left : V → ℕ → Files → Type 0) (manifest : List ℕ) (v v' : V) : Type 0 where
  pub looked : V
  pub written : V
  pub reads : OnlyReads disk count left v looked
  pub writes : Calls disk count left (Writes head_way manifest {X = Unit {0}} (Ok tt)) looked written
  pub syncs : Calls disk count left (Syncs {X = Unit {0}} (Ok tt)) written v'

-- what comes before the head of a first revision: its objects, and the first epoch
pub data BringsFirst (d : Disk) (batch : List Object) (n : Name) (f : File) : Type 0 where
  an_object : (brings : Brings d batch n f) → BringsFirst d batch n f
  the_epoch : (comes : ComesTo epoch_name (Some (epoch_text 0)) n f) → BringsFirst d batch n f
