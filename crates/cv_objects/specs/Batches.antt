-- What storing a batch does.
use Rattle.std.specs.Prelude.{◌≡◌, ◌≢◌, ◌⊎◌, ℕ, List, Vec}
use Rattle.std.specs.List.{Contains}
use Rattle.std.specs.declared.option.Option.TheVariants.{None, Some}
use Rattle.std.specs.declared.result.Result.{Result}
use Rattle.std.specs.declared.result.Result.TheVariants.{Ok, Err}
use Rattle.sha1.specs.Sha1.{sha1}
use Rattle.std.specs.declared.option.Option.{Option}
use Rattle.cv_base.specs.Digest.{IsDigest}
use Rattle.cv_base.specs.ObjectId.{file_name}
use Rattle.cv_base.specs.declared.id.ObjectId.{ObjectId}
use Rattle.cv_base.specs.declared.object.Object.{Object}
use Rattle.cv_ports.specs.Shelf.{Shelf}
use Rattle.cv_vault.specs.Names.{Name, on_way}
use Rattle.cv_vault.specs.Disk.{Disk, File, Files, May, IsCalm, synced}
use Rattle.cv_vault.specs.Walks.{Gains, Nothing}
use Rattle.cv_objects.specs.Names.{way_name, standing_on}
use Rattle.cv_objects.specs.Fresh.{fresh_of}
use Rattle.cv_objects.specs.declared.store_fault.StoreFault.{StoreFault}
use Rattle.cv_objects.specs.declared.store_fault.StoreFault.TheVariants.{Collision, Failed, Damaged, NoMemory}

-- objects of one id have the same bytes
pub record IsOne (batch : List Object) : Type 0 where
  pub each : (a b : Object) → Contains batch a → Contains batch b → a.id ≡ b.id → a.bytes ≡ b.bytes

-- ---- faults

-- other bytes of the same hash stand under the object's name
pub record HasOther (d : Disk) (o : Object) : Type 0 where
  pub bytes : List ℕ
  pub present : (d (file_name o.id)).now ≡ Some bytes
  pub other : bytes ≢ o.bytes
  pub hash : sha1 bytes ≡ o.id.hash

-- bytes of another hash stand there
pub record IsDamaged (d : Disk) (o : Object) (found : List ℕ) : Type 0 where
  pub bytes : List ℕ
  pub present : (d (file_name o.id)).now ≡ Some bytes
  pub digest : found ≡ sha1 bytes
  pub other : found ≢ o.id.hash

-- what a fault says of an object
abbrev pub Shows : Disk → Object → StoreFault → Type 0
Shows d o (Collision id) = (id ≡ o.id) × HasOther d o
Shows d o Failed = Unit {0}
Shows d o (Damaged id found) = (id ≡ o.id) × IsDamaged d o found
Shows d o NoMemory = Unit {0}

-- two objects of the batch have this id and differ
pub record Clashes (batch : List Object) (id : ObjectId) : Type 0 where
  pub a : Object
  pub b : Object
  pub has_a : Contains batch a
  pub has_b : Contains batch b
  pub is_a : a.id ≡ id
  pub is_b : b.id ≡ id
  pub differ : a.bytes ≢ b.bytes

-- an object of the batch shows the fault
pub record ShownBy (d : Disk) (batch : List Object) (fault : StoreFault) : Type 0 where
  pub object : Object
  pub among : Contains batch object
  pub shows : Shows d object fault

-- the fault is the vault's, or want of memory
abbrev pub IsOutside : StoreFault → Type 0
IsOutside (Collision id) = ⊥
IsOutside Failed = Unit {0}
IsOutside (Damaged id found) = ⊥
IsOutside NoMemory = Unit {0}

-- what a fault says of a batch: those of the vault and want of memory say nothing
pub data ShownIn (d : Disk) (batch : List Object) : StoreFault → Type 0 where
  by_one : {fault : StoreFault} (shown : ShownBy d batch fault) → ShownIn d batch fault
  by_two : {id : ObjectId} (clash : Clashes batch id) → ShownIn d batch (Collision id)
  by_itself : {fault : StoreFault} (outside : IsOutside fault) → ShownIn d batch fault

-- it stands under its name, or is on its way
pub data IsReady (d : Disk) (o : Object) : Type 0 where
  is_there : (there : (d (file_name o.id)).now ≡ Some o.bytes) → IsReady d o
  is_coming : (absent : (d (file_name o.id)).now ≡ None) (on_its_way : (d (way_name o.id)).now ≡ Some o.bytes) → IsReady d o

-- it comes to its name, which had no file
pub record BringsOne (d : Disk) (o : Object) (n : Name) (f : File) : Type 0 where
  pub name : n ≡ file_name o.id
  pub file : f ≡ Some o.bytes
  pub absent : (d n).now ≡ None

-- ---- a batch

-- an object of the batch comes to its name, which had no file
pub record Brings (d : Disk) (batch : List Object) (n : Name) (f : File) : Type 0 where
  pub object : Object
  pub among : Contains batch object
  pub one : BringsOne d object n f

pub record AreReady (d : Disk) (batch : List Object) : Type 0 where
  pub each : (o : Object) → Contains batch o → IsReady d o

-- all stand under their names
pub record Has (d : Disk) (batch : List Object) : Type 0 where
  pub each : (o : Object) → Contains batch o → (d (file_name o.id)).now ≡ Some o.bytes

-- no object of the batch comes by this name, or to it
pub record IsApart (batch : List Object) (n : Name) : Type 0 where
  pub way : (o : Object) → Contains batch o → n ≢ way_name o.id
  pub name : (o : Object) → Contains batch o → n ≢ file_name o.id

-- the names apart from the batch are as they were, marks included
pub record SparesOthers (d : Disk) (batch : List Object) (d' : Disk) : Type 0 where
  pub each : (n : Name) → IsApart batch n → d' n ≡ d n

-- what settling the disk and bringing the batch leaves
abbrev pub Brought : Disk → List Object → {X : Type 0} → Result X StoreFault → Disk → Type 0
Brought d batch (Ok x) d' = Has d' batch × SparesOthers (synced d) batch d'
Brought d batch (Err fault) d' = IsOutside fault

-- all is settled, and the batch is there
pub record AreStored (batch : List Object) (d' : Disk) : Type 0 where
  pub calm : IsCalm d'
  pub has : Has d' batch

-- the answer is a refusal of the batch
abbrev pub IsRefusal : {X : Type 0} → Result X StoreFault → Type 0
IsRefusal (Ok x) = ⊥
IsRefusal (Err (Collision id)) = Unit {0}
IsRefusal (Err Failed) = ⊥
IsRefusal (Err (Damaged id found)) = Unit {0}
IsRefusal (Err NoMemory) = ⊥

-- all is settled as it stood, but for what is on its way
abbrev pub IsSettledFirst : Disk → Disk → Type 0
IsSettledFirst d d' = Gains on_way Nothing (synced d) d'

-- a batch that doesn't clash in itself is refused by what stands there, and all was settled before that was looked at
abbrev pub RefusesSettled : Disk → List Object → {X : Type 0} → Result X StoreFault → Disk → Type 0
RefusesSettled d batch r d' = IsRefusal r → IsOne batch → IsSettledFirst d d'

-- what the first half of a store leaves: all is settled as it stood, and the batch is on its way or there
abbrev pub WroteAll : Disk → List Object → {X : Type 0} → Result X StoreFault → Disk → Type 0
WroteAll d batch (Ok x) d' = AreReady d' batch × IsSettledFirst d d'
WroteAll d batch (Err fault) d' = ShownIn d batch fault × RefusesSettled d batch {X = Unit {0}} (Err fault) d'

-- a store is refused, and nothing came
pub record IsRefused (d : Disk) (batch : List Object) (fault : StoreFault) (d' : Disk) : Type 0 where
  pub shown : ShownIn d batch fault
  pub same : Gains on_way Nothing d d'

-- what a store leaves. After a fault that is none of the batch's some of it may have come, but never one of two that differ under one id
abbrev pub Stored : Disk → List Object → {X : Type 0} → Result X StoreFault → Disk → Type 0
Stored d batch (Ok x) d' = AreStored batch d'
Stored d batch (Err (Collision id)) d' = IsRefused d batch (Collision id) d'
Stored d batch (Err Failed) d' = IsOne batch
Stored d batch (Err (Damaged id found)) d' = IsRefused d batch (Damaged id found) d'
Stored d batch (Err NoMemory) d' = IsOne batch ⊎ Gains on_way Nothing d d'

-- what stands on a shelf under an id of the batch is that object's bytes
pub record Agrees (batch : List Object) (shelf : Shelf) : Type 0 where
  pub each : (o : Object) → Contains batch o → (bytes : List ℕ) → shelf o.id ≡ Some bytes → bytes ≡ o.bytes

-- the ids that the shelf lacks, each once, in the order of the batch; objects of one id are one, and what stands there is theirs
abbrev pub GivesFresh : Disk → List Object → {Z : Type 0} → Result (Vec ObjectId Z) StoreFault → Disk → Type 0
GivesFresh d batch (Ok ids) d' = (d' ≡ d) × (ids.items ≡ fresh_of batch (standing_on d)) × IsOne batch × Agrees batch (standing_on d)
GivesFresh d batch (Err fault) d' = (d' ≡ d) × ShownIn d batch fault

-- ---- what a store means

-- a crash leaves no bytes of another hash under an object's name
pub record AreHashed (d : Disk) : Type 0 where
  pub each : (id : ObjectId) → IsDigest id.hash → (file : File) → May (d (file_name id)) file → (bytes : List ℕ) → file ≡ Some bytes → sha1 bytes ≡ id.hash

-- no file has bytes of another hash under an object's name
pub record HaveHashes (f : Files) : Type 0 where
  pub each : (id : ObjectId) → IsDigest id.hash → (bytes : List ℕ) → f (file_name id) ≡ Some bytes → sha1 bytes ≡ id.hash

-- an object of the batch came to the id, under which nothing stood
pub record IsGained (batch : List Object) (before : Shelf) (id : ObjectId) (now : Option (List ℕ)) : Type 0 where
  pub object : Object
  pub among : Contains batch object
  pub is : id ≡ object.id
  pub file : now ≡ Some object.bytes
  pub absent : before id ≡ None
