-- A line of revisions, as contracts see it.
use Rattle.std.specs.Prelude.{◌≡◌, ◌≢◌, ℕ, ◌+◌, ◌<◌, ◌≤◌, Bool, List, [], ◌∷◌, ◌++◌, take, length}
use Rattle.std.specs.declared.option.Option.{Option}
use Rattle.std.specs.declared.result.Result.{Result}
use Rattle.std.specs.declared.result.Result.TheVariants.{Ok, Err}
use Rattle.cv_base.specs.Told.{WhereTold}
use Rattle.cv_vault.specs.Disk.{Disk, Files}
use Rattle.cv_vault.specs.Moments.{OnlyReads}
use Rattle.cv_history.specs.declared.record.Record.{Record}
use Rattle.cv_manifest.specs.Manifest.{IsHead}
use Rattle.cv_manifest.specs.declared.head.Head.{Head}
use Rattle.cv_swap.specs.Stands.{head_name, head_way}
use Rattle.cv_vault.specs.Replace.{IsWaiting}
use Rattle.cv_swap.specs.Opening.{Opens}
use Rattle.cv_swap.specs.declared.found.Found.{Found}
use Rattle.cv_swap.specs.declared.open_fault.OpenFault.{OpenFault}
use Rattle.cv_swap.specs.declared.open_fault.OpenFault.TheVariants.{Failed}
use Rattle.cv_swap.specs.declared.stage.Stage.{Stage}
use Rattle.cv_swap.specs.declared.stage.Stage.TheVariants.{Calm, Ready}

-- the vault, and how many objects were taken from its shelf; the repository's name and signer; the records, of which so many are published; the head and the epoch; how far the next
-- revision is, with its head and manifest
pub record LineView (V S : Type 0) : Type 0 where
  pub vault : V
  pub taken : ℕ
  pub name : List ℕ
  pub signer : S
  pub all : List Record
  pub made : ℕ
  pub head : Head
  pub epoch : ℕ
  pub stage : Stage
  pub next_head : Head
  pub manifest : List ℕ

-- so many records are published, and one more is there where the next revision is under way; the head and the next one can be written;
-- and where the next one is ready its manifest waits on its way
pub record IsConsistent {V : Type 0} (disk : V → Option Disk) (vault : V) (made : ℕ) (all : List Record) (stage : Stage) (head next_head : Head) (manifest : List ℕ) : Type 0 where
  pub published_ : made ≤ length all
  pub next : stage ≢ Calm → made < length all
  pub head_ : IsHead head
  pub next_head_ : IsHead next_head
  pub waits : stage ≡ Ready → WhereTold (disk vault) (IsWaiting head_way head_name manifest)

-- the published records
abbrev pub published : {V S : Type 0} → LineView V S → List Record
published l = take l.made l.all

-- the line with its next revision published
abbrev pub swapped : {V S : Type 0} → LineView V S → V → LineView V S
swapped l vault = record l { vault = vault; made = l.made + 1; head = l.next_head; stage = Calm }

-- from one line to a later one nothing but reads of the vault went by
abbrev pub LineReads : {V S : Type 0} (disk : V → Option Disk) (count : V → ℕ) (left : V → ℕ → Files → Type 0) → LineView V S → LineView V S → Type 0
LineReads disk count left old new = OnlyReads disk count left old.vault new.vault × (new ≡ record old { vault = new.vault; taken = new.taken })

-- a line that was opened: nothing is prepared, and no object was taken since
pub record IsOpenedLine {V S : Type 0} (name : List ℕ) (signer : S) (l : LineView V S) : Type 0 where
  pub named : l.name ≡ name
  pub signed : l.signer ≡ signer
  pub made : l.made ≡ length l.all
  pub stage : l.stage ≡ Calm
  pub taken : l.taken ≡ 0

-- a line was opened with what was found, or the vault is handed back
abbrev pub LineOpens : {V S : Type 0} (disk : V → Option Disk) (count : V → ℕ) (left : V → ℕ → Files → Type 0) → List ℕ → (List ℕ → List ℕ → Bool) → Disk → V → Result (LineView V S) (OpenFault × V) → Type 0
LineOpens disk count left name is_seal d v (Ok l) = (found : Found) × Opens disk count left name is_seal d (Ok found) v l.vault × (l.all ≡ found.records) × (l.head ≡ found.head) × (l.epoch ≡ found.epoch + 1)
LineOpens disk count left name is_seal d v (Err e) = Opens disk count left name is_seal d (Err e.0) v e.1

abbrev pub vault_of : {V S : Type 0} → Result (LineView V S) (OpenFault × V) → V
vault_of (Ok l) = l.vault
vault_of (Err e) = e.1

abbrev pub IsFailed : {V S : Type 0} → Result (LineView V S) (OpenFault × V) → Type 0
IsFailed (Ok l) = ⊥
IsFailed (Err e) = e.0 ≡ Failed

-- neither whose repository it is, nor what is published of it, nor its epoch changed, and no object was taken
pub record AreKept {V S : Type 0} (old new : LineView V S) : Type 0 where
  pub name_ : new.name ≡ old.name
  pub signer_ : new.signer ≡ old.signer
  pub made_ : new.made ≡ old.made
  pub head_ : new.head ≡ old.head
  pub epoch_ : new.epoch ≡ old.epoch
  pub taken_ : new.taken ≡ old.taken

-- the record is behind the published ones, and its head is ready
pub record IsReady {V S : Type 0} (old : LineView V S) (next : Record) (head : Head) (new : LineView V S) : Type 0 where
  pub all : new.all ≡ published old ++ next ∷ []
  pub stage : new.stage ≡ Ready
  pub next_head : new.next_head ≡ head
  pub others : AreKept old new

-- what was published is as it was, and nothing is ready
pub record IsDropped {V S : Type 0} (old new : LineView V S) : Type 0 where
  pub published_ : published new ≡ published old
  pub stage : new.stage ≡ Calm
  pub others : AreKept old new
