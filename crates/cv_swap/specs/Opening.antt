-- What opening finds, and what a crash in it leaves.
use Rattle.std.specs.Prelude.{◌≡◌, ◌≢◌, ◌⊎◌, ⊤, ℕ, ◌+◌, ◌<◌, ◌^◌, Bool, false, List, Option, None, Some}
use Rattle.std.specs.declared.result.Result.{Result}
use Rattle.std.specs.declared.result.Result.TheVariants.{Ok, Err}
use Rattle.cv_base.specs.Token.{last_number}
use Rattle.cv_vault.specs.Names.{Name, on_way}
use Rattle.cv_vault.specs.Disk.{Disk, File, Files, files_now, synced}
use Rattle.cv_vault.specs.Moments.{LeavesOnly}
use Rattle.cv_vault.specs.Walks.{Gains, Within, Walks, Nothing, ComesTo}
use Rattle.cv_vault.specs.Replace.{IsSure}
use Rattle.cv_history.specs.Chain.{Chain, StandsAt, Breaks}
use Rattle.cv_history.specs.declared.chain_fault.ChainFault.{ChainFault}
use Rattle.cv_history.specs.declared.record.Record.{Record}
use Rattle.cv_manifest.specs.Fault.{Shows}
use Rattle.cv_manifest.specs.Manifest.{Says}
use Rattle.cv_manifest.specs.declared.head.Head.{Head}
use Rattle.cv_manifest.specs.declared.manifest.Manifest.{Manifest}
use Rattle.cv_manifest.specs.declared.manifest_fault.ManifestFault.{ManifestFault}
use Rattle.cv_manifest.specs.declared.manifest_fault.ManifestFault.TheVariants as manifest_fault
use Rattle.cv_objects.specs.Names.{objects_of}
use Rattle.cv_swap.specs.Stands.{head_name, epoch_name, epoch_text, history_id, Publishes}
use Rattle.cv_swap.specs.Kept.{Kept, Revision, newest, head_of, records_of}
use Rattle.cv_swap.specs.declared.found.Found.{Found}
use Rattle.cv_swap.specs.declared.open_fault.OpenFault.{OpenFault}
use Rattle.cv_swap.specs.declared.open_fault.OpenFault.TheVariants.{NoRepository, BadManifest, OtherName, BadHistory, BadEpoch, EpochsSpent, Failed, NoMemory}

-- the file shows this fault of manifests
pub record IsNoManifest (is_seal : List ℕ → List ℕ → Bool) (file : File) (fault : ManifestFault) : Type 0 where
  pub text : List ℕ
  pub present : file ≡ Some text
  pub shows : Shows is_seal text fault
  pub said : fault ≢ manifest_fault.NoMemory

-- the file says a manifest of another name
pub record IsOthers (name : List ℕ) (is_seal : List ℕ → List ℕ → Bool) (file : File) : Type 0 where
  pub text : List ℕ
  pub present : file ≡ Some text
  pub manifest : Manifest
  pub says : Says is_seal text manifest
  pub other : manifest.name ≢ name

-- the head, and its records
pub record HasHistory (name : List ℕ) (is_seal : List ℕ → List ℕ → Bool) (f : Files) (head : Head) (records : List Record) : Type 0 where
  pub published : Publishes name is_seal (f head_name) head
  pub chain : Chain (StandsAt (objects_of f)) head.revision (history_id head) records

-- the head, and where the chain of its records breaks
pub record HasNoHistory (name : List ℕ) (is_seal : List ℕ → List ℕ → Bool) (f : Files) (fault : ChainFault) : Type 0 where
  pub head : Head
  pub published : Publishes name is_seal (f head_name) head
  pub breaks : Breaks (objects_of f) head.revision (history_id head) fault

-- a head and its records are there, and the file is no epoch's
pub record HasNoEpoch (name : List ℕ) (is_seal : List ℕ → List ℕ → Bool) (f : Files) : Type 0 where
  pub head : Head
  pub records : List Record
  pub history : HasHistory name is_seal f head records
  pub none : (n : ℕ) → n < 2 ^ 64 → f epoch_name ≡ Some (epoch_text n) → ⊥

-- and the epoch is the last one
pub record IsSpent (name : List ℕ) (is_seal : List ℕ → List ℕ → Bool) (f : Files) : Type 0 where
  pub head : Head
  pub records : List Record
  pub history : HasHistory name is_seal f head records
  pub last : f epoch_name ≡ Some (epoch_text last_number)

-- why the files aren't opened
abbrev pub Refuses : List ℕ → (List ℕ → List ℕ → Bool) → Files → OpenFault → Type 0
Refuses name is_seal f NoRepository = f head_name ≡ None
Refuses name is_seal f (BadManifest fault) = IsNoManifest is_seal (f head_name) fault
Refuses name is_seal f OtherName = IsOthers name is_seal (f head_name)
Refuses name is_seal f (BadHistory fault) = HasNoHistory name is_seal f fault
Refuses name is_seal f BadEpoch = HasNoEpoch name is_seal f
Refuses name is_seal f EpochsSpent = IsSpent name is_seal f
Refuses name is_seal f Failed = Unit {0}
Refuses name is_seal f NoMemory = Unit {0}

-- what the files are opened with
pub record IsFound (name : List ℕ) (is_seal : List ℕ → List ℕ → Bool) (f : Files) (found : Found) : Type 0 where
  pub history : HasHistory name is_seal f found.head found.records
  pub epoch : f epoch_name ≡ Some (epoch_text found.epoch)
  pub room : found.epoch < last_number

-- what is found, or why nothing is
abbrev pub Finds : List ℕ → (List ℕ → List ℕ → Bool) → Files → Result Found OpenFault → Type 0
Finds name is_seal f (Ok found) = IsFound name is_seal f found
Finds name is_seal f (Err fault) = Refuses name is_seal f fault

-- the file is the epoch's, raised by one
pub record IsRaised (d : Disk) (n : Name) (f : File) : Type 0 where
  pub name : n ≡ epoch_name
  pub epoch : ℕ
  pub room : epoch < last_number
  pub before : (d epoch_name).now ≡ Some (epoch_text epoch)
  pub after : f ≡ Some (epoch_text (epoch + 1))

-- each file stands as it did on the disk, or it is the epoch's raised by one
pub record AsRaised (d : Disk) (f : Files) : Type 0 where
  pub each : (n : Name) → on_way n ≡ false → (f n ≡ (d n).now) ⊎ IsRaised d n (f n)

-- a crash in opening leaves what it might have left before, or the files as they stood, with the epoch or the raised one
pub data WhileOpening (d : Disk) (f : Files) : Type 0 where
  before : Within on_way Nothing d f → WhileOpening d f
  after : AsRaised d f → WhileOpening d f

-- the epoch was raised by one for sure, and nothing else came
pub record IsOpened (d : Disk) (found : Found) (d' : Disk) : Type 0 where
  pub sure : IsSure epoch_name (epoch_text (found.epoch + 1)) d'
  pub gains : Gains on_way (ComesTo epoch_name (Some (epoch_text (found.epoch + 1)))) d d'

-- What an opening leaves. Where the files refuse it, all is settled as it stood, and the epoch isn't raised; after want of memory too, but
-- for what is on its way; after a failure the epoch may have been raised or not, and nothing else came
abbrev pub Opened : Disk → Result Found OpenFault → Disk → Type 0
Opened d (Ok found) d' = IsOpened d found d'
Opened d (Err NoRepository) d' = d' ≡ synced d
Opened d (Err (BadManifest fault)) d' = d' ≡ synced d
Opened d (Err OtherName) d' = d' ≡ synced d
Opened d (Err (BadHistory fault)) d' = d' ≡ synced d
Opened d (Err BadEpoch) d' = d' ≡ synced d
Opened d (Err EpochsSpent) d' = d' ≡ synced d
Opened d (Err Failed) d' = Gains on_way (IsRaised d) d d'
Opened d (Err NoMemory) d' = Gains on_way Nothing (synced d) d'

-- what a crash may leave in an opening that answers so: where the files refuse it, and after want of memory, what might have been left before
abbrev pub OpeningLeaves : Disk → Result Found OpenFault → Files → Type 0
OpeningLeaves d (Ok found) f = WhileOpening d f
OpeningLeaves d (Err NoRepository) f = Within on_way Nothing d f
OpeningLeaves d (Err (BadManifest fault)) f = Within on_way Nothing d f
OpeningLeaves d (Err OtherName) f = Within on_way Nothing d f
OpeningLeaves d (Err (BadHistory fault)) f = Within on_way Nothing d f
OpeningLeaves d (Err BadEpoch) f = Within on_way Nothing d f
OpeningLeaves d (Err EpochsSpent) f = Within on_way Nothing d f
OpeningLeaves d (Err Failed) f = WhileOpening d f
OpeningLeaves d (Err NoMemory) f = Within on_way Nothing d f

-- what opening does, whatever it answers: the answer is what the files say as they stood, and a crash leaves what it may
pub record Opens {V : Type 0} (disk : V → Option Disk) (count : V → ℕ) (left : V → ℕ → Files → Type 0) (name : List ℕ) (is_seal : List ℕ → List ℕ → Bool) (d : Disk)
    (r : Result Found OpenFault) (v v' : V) : Type 0 where
  pub end : Disk
  pub told : disk v' ≡ Some end
  pub finds : Finds name is_seal (files_now d) r
  pub leaves : LeavesOnly count left (OpeningLeaves d r) v v'
  pub opened : Opened d r end
  -- the epoch of files that are none to be opened isn't raised, whatever it answers, and no crash leaves it raised
  pub unraised : ((found : Found) → IsFound name is_seal (files_now d) found → ⊥) → Walks disk count left on_way Nothing (λ end. ⊤) d v v'

-- it is what is kept that is found
pub record IsOf (k : Kept) (found : Found) : Type 0 where
  pub newest_ : Revision
  pub is_newest : newest k.history ≡ Some newest_
  pub head : found.head ≡ head_of newest_
  pub records : found.records ≡ records_of k.history
  pub epoch : found.epoch ≡ k.epoch

-- the fault is the vault's, want of memory, or that the epoch is the last one
abbrev pub MayRefuse : OpenFault → Type 0
MayRefuse NoRepository = ⊥
MayRefuse (BadManifest fault) = ⊥
MayRefuse OtherName = ⊥
MayRefuse (BadHistory fault) = ⊥
MayRefuse BadEpoch = ⊥
MayRefuse EpochsSpent = Unit {0}
MayRefuse Failed = Unit {0}
MayRefuse NoMemory = Unit {0}
