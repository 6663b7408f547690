-- What comes to a shelf of a list of objects, and what can't.
use Rattle.std.specs.Prelude.{◌≡◌, ◌≢◌, ◌⊎◌, ℕ, List, Some}
use Rattle.std.specs.List.{Contains}
use Rattle.cv_base.specs.declared.id.ObjectId.{ObjectId}
use Rattle.cv_base.specs.declared.object.Object.{Object}
use Rattle.cv_ports.specs.Shelf.{Shelf}
use Rattle.cv_objects.specs.Batches.{IsGained}

-- under each id stands what stood there, or one of the objects, where nothing stood
pub record ShelfGains (objects : List Object) (shelf shelf' : Shelf) : Type 0 where
  pub each : (id : ObjectId) → (shelf' id ≡ shelf id) ⊎ IsGained objects shelf id (shelf' id)

-- the shelf has all of the objects
pub record HasAll (objects : List Object) (shelf : Shelf) : Type 0 where
  pub each : (object : Object) → Contains objects object → shelf object.id ≡ Some object.bytes

-- other bytes stand under the id of one of the objects, on the shelf or in another of them
pub record ClashesOn (shelf : Shelf) (objects : List Object) (id : ObjectId) : Type 0 where
  pub object : Object
  pub among : Contains objects object
  pub is : object.id ≡ id
  pub bytes : List ℕ
  pub other : bytes ≢ object.bytes
  pub there : (shelf id ≡ Some bytes) ⊎ Contains objects (record { id = id; bytes = bytes })
