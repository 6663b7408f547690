-- What storing a batch does. What only this crate's own functions say.
use Rattle.std.specs.Prelude.{◌≡◌, ◌≢◌, ℕ, Bool, true, false, ◌||◌, List, [], ◌∷◌, ◌++◌}
use Rattle.std.specs.List.{Contains}
use Rattle.std.specs.declared.option.Option.TheVariants.{None, Some}
use Rattle.std.specs.declared.result.Result.{Result}
use Rattle.std.specs.declared.result.Result.TheVariants.{Ok, Err}
use Rattle.sha1.specs.Sha1.{sha1}
use Rattle.cv_base.specs.ObjectId.{file_name}
use Rattle.cv_base.specs.declared.id.ObjectId.{ObjectId}
use Rattle.cv_base.specs.declared.object.Object.{Object}
use Rattle.cv_ports.specs.Objects.{same_id}
use Rattle.cv_vault.specs.Names.{Name}
use Rattle.cv_vault.specs.Disk.{Disk, Settled, slot}
use Rattle.cv_objects.specs.Names.{way_name, standing_on}
use Rattle.cv_objects.specs.PlacesInner.{is_noted}
use Rattle.cv_objects.specs.declared.places.Places.{Places}
use Rattle.cv_objects.specs.declared.store_fault.StoreFault.{StoreFault}
use Rattle.cv_objects.specs.declared.store_fault.StoreFault.TheVariants.{Collision, Damaged}
use Rattle.cv_objects.specs.Batches.{AreReady, Has, IsOutside, IsReady, Shows, ShownIn, SparesOthers}

-- ---- one object

-- whether it stands under its name
abbrev pub Looked : Disk → Object → Result Bool StoreFault → Disk → Type 0
Looked d o (Ok true) d' = (d' ≡ d) × ((d (file_name o.id)).now ≡ Some o.bytes)
Looked d o (Ok false) d' = (d' ≡ d) × ((d (file_name o.id)).now ≡ None)
Looked d o (Err fault) d' = (d' ≡ d) × Shows d o fault

-- it stands under its name, or can be brought there
pub data Waits (d : Disk) (o : Object) : Type 0 where
  stands : (there : (d (file_name o.id)).now ≡ Some o.bytes) → Waits d o
  can : (absent : d (file_name o.id) ≡ slot None Settled) (on_its_way : d (way_name o.id) ≡ slot (Some o.bytes) Settled) → Waits d o

-- what putting it on its way leaves
pub record IsWritten (d : Disk) (o : Object) (d' : Disk) : Type 0 where
  pub ready : IsReady d' o
  pub others : (n : Name) → n ≢ way_name o.id → d' n ≡ d n

abbrev pub Wrote : Disk → Object → {X : Type 0} → Result X StoreFault → Disk → Type 0
Wrote d o (Ok x) d' = IsWritten d o d'
Wrote d o (Err fault) d' = Shows d o fault

-- what bringing it leaves
pub record IsPlaced (d : Disk) (o : Object) (d' : Disk) : Type 0 where
  pub there : (d' (file_name o.id)).now ≡ Some o.bytes
  pub others : (n : Name) → n ≢ way_name o.id → n ≢ file_name o.id → d' n ≡ d n

abbrev pub Placed : Disk → Object → {X : Type 0} → Result X StoreFault → Disk → Type 0
Placed d o (Ok x) d' = IsPlaced d o d'
Placed d o (Err fault) d' = IsOutside fault

pub record AllWait (d : Disk) (batch : List Object) : Type 0 where
  pub each : (o : Object) → Contains batch o → Waits d o

-- what putting the absent objects of a batch on their way leaves
abbrev pub WroteAbsent : Disk → List Object → {X : Type 0} → Result X StoreFault → Disk → Type 0
WroteAbsent d batch (Ok x) d' = AreReady d' batch
WroteAbsent d batch (Err fault) d' = ShownIn d batch fault

-- no name by which the object comes, or to which
pub record IsApartFrom (o : Object) (n : Name) : Type 0 where
  pub way : n ≢ way_name o.id
  pub name : n ≢ file_name o.id

abbrev pub PlacedAll : Disk → List Object → {X : Type 0} → Result X StoreFault → Disk → Type 0
PlacedAll d batch (Ok x) d' = Has d' batch × SparesOthers d batch d'
PlacedAll d batch (Err fault) d' = IsOutside fault

-- bytes that stand under an object's name, against it
abbrev pub Compares : Object → List ℕ → Result Bool StoreFault → Type 0
Compares o bytes (Ok true) = bytes ≡ o.bytes
Compares o bytes (Ok false) = ⊥
Compares o bytes (Err (Collision id)) = (id ≡ o.id) × (bytes ≢ o.bytes) × (sha1 bytes ≡ o.id.hash)
Compares o bytes (Err (Damaged id found)) = (id ≡ o.id) × (found ≡ sha1 bytes) × (found ≢ o.id.hash)
Compares o bytes (Err fault) = ⊥

-- an id is noted behind others, unless it is noted already
pub data Notes (old : List ObjectId) (was : Places) (id : ObjectId) (new : List ObjectId) (are : Places) : Type 0 where
  again : (noted : is_noted was id ≡ true) (same : new ≡ old) (kept : are ≡ was) → Notes old was id new are
  anew : (other : is_noted was id ≡ false) (end : new ≡ old ++ id ∷ []) (more : (x : ObjectId) → is_noted are x ≡ same_id id x || is_noted was x) → Notes old was id new are

-- the id of an object without a file is noted
pub data Noted (d : Disk) (o : Object) (old : List ObjectId) (was : Places) (new : List ObjectId) (are : Places) : Type 0 where
  has_file : (there : standing_on d o.id ≡ Some o.bytes) (same : new ≡ old) (kept : are ≡ was) → Noted d o old was new are
  has_none : (absent : standing_on d o.id ≡ None) (notes : Notes old was o.id new are) → Noted d o old was new are

abbrev pub NotesOne : Disk → Object → List ObjectId → Places → List ObjectId → Places → {X : Type 0} → Result X StoreFault → Disk → Type 0
NotesOne d o old was new are (Ok x) d' = (d' ≡ d) × Noted d o old was new are
NotesOne d o old was new are (Err fault) d' = (d' ≡ d) × Shows d o fault
