-- What opening a catalogue at its place answers.
use Rattle.std.specs.Prelude.{◌≡◌, ◌≢◌, ◌⊎◌, ℕ, List, length, Some, None, Result, Ok, Err, IsSomeAnd}
use Rattle.cv_base.specs.ObjectId.{object_id}
use Rattle.cv_base.specs.declared.id.ObjectId.{ObjectId}
use Rattle.cv_base.specs.declared.id.Kind.TheVariants.{Catalogue}
use Rattle.cv_base.specs.Counts.{raised}
use Rattle.cv_ports.specs.Shelf.{Shelf, HasOtherDigest}
use Rattle.cv_rows.specs.Catalogue.{Contents}
use Rattle.cv_rows.specs.Places.{StandsAt}
use Rattle.cv_rows.specs.declared.row.Row.{Row}
use Rattle.cv_rows.specs.declared.nested.Nested.{Nested}
use Rattle.cv_rows.specs.declared.row_kind.RowKind.TheVariants.{Transition}
use Rattle.cv_cut.specs.Reached.{Place, Decodes, HasCatalogue, ReachedFrom, LackingFrom, BadFrom, root_place}
use Rattle.cv_cut.specs.Good.{HasSize}
use Rattle.cv_cut.specs.declared.load_fault.LoadFault.{LoadFault}
use Rattle.cv_cut.specs.declared.load_fault.LoadFault.TheVariants as fault

-- ---- causes of faults, in what is reached from a catalogue at a place

-- a reached catalogue whose bytes have another digest
pub record IsDamagedFrom (shelf : Shelf) (from : List ℕ) (start : Place) (id : ObjectId) (found : List ℕ) : Type 0 where
  pub kind : id.kind ≡ Catalogue
  pub reached : ReachedFrom shelf from start id
  pub damage : HasOtherDigest shelf id found

-- the cause of a fault, where it lies in what is on the shelf
abbrev pub MayFailFrom : Shelf → List ℕ → Place → LoadFault → Type 0
MayFailFrom shelf from start (fault.Missing x) = LackingFrom shelf from start x
MayFailFrom shelf from start (fault.Bad x) = BadFrom shelf from start x
MayFailFrom shelf from start fault.Failed = Unit {0}
MayFailFrom shelf from start (fault.Damaged id found) = IsDamagedFrom shelf from start id found
MayFailFrom shelf from start fault.NoMemory = Unit {0}

-- the same from the root of the repository on
abbrev pub IsDamaged : Shelf → List ℕ → ObjectId → List ℕ → Type 0
IsDamaged shelf root = IsDamagedFrom shelf root root_place

abbrev pub MayFail : Shelf → List ℕ → LoadFault → Type 0
MayFail shelf root = MayFailFrom shelf root root_place

-- the shelf failed or memory was wanted, and nothing was said of what is there
abbrev pub IsUnread : LoadFault → Type 0
IsUnread (fault.Missing x) = ⊥
IsUnread (fault.Bad x) = ⊥
IsUnread fault.Failed = Unit {0}
IsUnread (fault.Damaged id found) = ⊥
IsUnread fault.NoMemory = Unit {0}

-- ---- single objects

-- the object under an id has this size, or why not, by the catalogue under `owner` that states the size
abbrev pub Sizes : Shelf → ObjectId → ℕ → ObjectId → {X : Type 0} → Result X LoadFault → Type 0
Sizes shelf id size owner (Ok done) = HasSize shelf id size
Sizes shelf id size owner (Err (fault.Missing x)) = (x ≡ id) × (shelf id ≡ None)
Sizes shelf id size owner (Err (fault.Bad x)) = (x ≡ owner) × IsSomeAnd (shelf id) (λ bytes. length bytes ≢ size)
Sizes shelf id size owner (Err fault.Failed) = Unit {0}
Sizes shelf id size owner (Err (fault.Damaged x found)) = ⊥
Sizes shelf id size owner (Err fault.NoMemory) = Unit {0}

-- ---- catalogues

-- bytes stand under the id which are no catalogue at the place
pub record IsUndecodable (shelf : Shelf) (id : ObjectId) (place : Place) : Type 0 where
  pub bytes : List ℕ
  pub there : shelf id ≡ Some bytes
  pub none : (c : Contents) → Decodes place bytes c → ⊥

-- the catalogue under an id at a place, or why not
abbrev pub Opens : Shelf → ObjectId → Place → Result Contents LoadFault → Type 0
Opens shelf id place (Ok c) = HasCatalogue shelf id.hash place c
Opens shelf id place (Err (fault.Missing x)) = (x ≡ id) × (shelf id ≡ None)
Opens shelf id place (Err (fault.Bad x)) = (x ≡ id) × IsUndecodable shelf id place
Opens shelf id place (Err fault.Failed) = Unit {0}
Opens shelf id place (Err (fault.Damaged x found)) = (x ≡ id) × HasOtherDigest shelf id found
Opens shelf id place (Err fault.NoMemory) = Unit {0}

-- the id of the catalogue that a nested entry names
abbrev pub below_id : Nested → ObjectId
below_id n = object_id n.hash Catalogue

-- the row is the Transition row of a nested entry of the catalogue
pub record IsTransitionOf (c : Contents) (n : Nested) (r : Row) : Type 0 where
  pub kind : r.kind ≡ Transition
  pub stands : StandsAt c.at c.rows r n.path

-- the catalogue of a nested entry of another, at its place there
pub record IsNestedCatalogue (shelf : Shelf) (c : Contents) (n : Nested) (below : Contents) : Type 0 where
  pub row : Row
  pub kind_ : row.kind ≡ Transition
  pub stands : StandsAt c.at c.rows row n.path
  pub size : HasSize shelf (below_id n) n.size
  pub opened : HasCatalogue shelf n.hash (record { path = n.path; row = Some row }) below

-- a nested entry of the catalogue under an id names bytes of another length, or bytes that are no catalogue at its place
pub data IsBadNested (shelf : Shelf) (id : ObjectId) (c : Contents) (n : Nested) : ObjectId → Type 0 where
  of_size : IsSomeAnd (shelf (below_id n)) (λ bytes. length bytes ≢ n.size) → IsBadNested shelf id c n id
  undecodable : (r : Row) → IsTransitionOf c n r → IsUndecodable shelf (below_id n) (record { path = n.path; row = Some r }) → IsBadNested shelf id c n (below_id n)

-- the catalogue that a nested entry of the catalogue under an id names, or why not
abbrev pub OpensNested : Shelf → ObjectId → Contents → Nested → Result Contents LoadFault → Type 0
OpensNested shelf id c n (Ok below) = IsNestedCatalogue shelf c n below
OpensNested shelf id c n (Err (fault.Missing x)) = (x ≡ below_id n) × (shelf (below_id n) ≡ None)
OpensNested shelf id c n (Err (fault.Bad x)) = IsBadNested shelf id c n x
OpensNested shelf id c n (Err fault.Failed) = Unit {0}
OpensNested shelf id c n (Err (fault.Damaged x found)) = (x ≡ below_id n) × HasOtherDigest shelf (below_id n) found
OpensNested shelf id c n (Err fault.NoMemory) = Unit {0}

-- one object was fetched, or where there is a fault none or one
abbrev pub FetchesOne : ℕ → ℕ → {X : Type 0} → Result X LoadFault → Type 0
FetchesOne before after (Ok given) = after ≡ raised before
FetchesOne before after (Err fault) = (after ≡ before) ⊎ (after ≡ raised before)
