-- Which objects are reached from a root, and which of them are lacking or bad.
use Rattle.std.specs.Prelude.{◌≡◌, ◌≢◌, ◌⊎◌, ℕ, List, [], length, Option, Some, None, IfSome, Contains}
use Rattle.sha1.specs.Sha1.{sha1}
use Rattle.cv_base.specs.Path.{Path}
use Rattle.cv_base.specs.ObjectId.{object_id}
use Rattle.cv_base.specs.declared.id.ObjectId.{ObjectId}
use Rattle.cv_base.specs.declared.id.Kind.TheVariants.{Plain, Catalogue}
use Rattle.cv_ports.specs.Shelf.{Shelf}
use Rattle.cv_rows.specs.Catalogue.{Contents, IsCatalogue, catalogue_bytes}
use Rattle.cv_rows.specs.Places.{StandsAt}
use Rattle.cv_rows.specs.declared.row.Row.{Row}
use Rattle.cv_rows.specs.declared.nested.Nested.{Nested}
use Rattle.cv_rows.specs.declared.row_kind.RowKind.TheVariants.{Transition, File}
use Rattle.cv_cut.specs.Open.{FitsRow}

-- where a catalogue stands: its path and, but for the root's, the Transition row that names it
pub record Place : Type 0 where
  pub path : Path
  pub row : Option Row

abbrev pub root_place : Place
root_place = record { path = []; row = None }

-- a catalogue stands there: it is of its path, and its root row has the fields of the Transition row but for its kind
pub record FitsPlace (place : Place) (c : Contents) : Type 0 where
  pub at : c.at ≡ place.path
  pub row : IfSome place.row (FitsRow c)

-- the bytes decode at a place: they are those of a catalogue of its path, whose root row has the fields of the Transition
-- row but for its kind
pub record Decodes (place : Place) (bytes : List ℕ) (c : Contents) : Type 0 where
  pub at : c.at ≡ place.path
  pub is : IsCatalogue c
  pub spelled : bytes ≡ catalogue_bytes c
  pub row : IfSome place.row (FitsRow c)

-- under a hash the shelf has this catalogue, in bytes of that hash, which decode at the place
pub record HasCatalogue (shelf : Shelf) (hash : List ℕ) (place : Place) (c : Contents) : Type 0 where
  pub bytes : List ℕ
  pub there : shelf (object_id hash Catalogue) ≡ Some bytes
  pub decodes : Decodes place bytes c
  pub digest : sha1 bytes ≡ hash

-- What is reached from a catalogue at a place, wherever it is: the catalogue itself; and where a catalogue is reached, its
-- nested entries are reached as catalogues at their paths.
pub data Reaches (shelf : Shelf) (from : List ℕ) (start : Place) : List ℕ → Place → Type 0 where
  itself : Reaches shelf from start from start
  nested : {hash : List ℕ} {place : Place} {c : Contents} {n : Nested} {r : Row} → Reaches shelf from start hash place → HasCatalogue shelf hash place c
      → Contains c.nested n → r.kind ≡ Transition → StandsAt c.at c.rows r n.path → Reaches shelf from start n.hash (record { path = n.path; row = Some r })

-- and the hashes of its file rows as plain objects
pub data ReachedFrom (shelf : Shelf) (from : List ℕ) (start : Place) : ObjectId → Type 0 where
  catalogue_ : {hash : List ℕ} {place : Place} → Reaches shelf from start hash place → ReachedFrom shelf from start (object_id hash Catalogue)
  file : {hash content : List ℕ} {place : Place} {c : Contents} {r : Row} → Reaches shelf from start hash place → HasCatalogue shelf hash place c
      → Contains c.rows r → r.kind ≡ File → r.hash ≡ Some content → ReachedFrom shelf from start (object_id content Plain)

-- reached and absent
abbrev pub LackingFrom : Shelf → List ℕ → Place → ObjectId → Type 0
LackingFrom shelf from start x = ReachedFrom shelf from start x × (shelf x ≡ None)

-- the catalogue states a size that isn't the length of the object, which is there
pub data Misstates (shelf : Shelf) (c : Contents) : Type 0 where
  nested : {n : Nested} {bytes : List ℕ} → Contains c.nested n → shelf (object_id n.hash Catalogue) ≡ Some bytes → length bytes ≢ n.size → Misstates shelf c
  file : {r : Row} {hash bytes : List ℕ} → Contains c.rows r → r.kind ≡ File → r.hash ≡ Some hash → shelf (object_id hash Plain) ≡ Some bytes → length bytes ≢ r.size → Misstates shelf c

-- a reached catalogue that is there, and doesn't decode at its place or misstates a size
pub record BadFrom (shelf : Shelf) (from : List ℕ) (start : Place) (x : ObjectId) : Type 0 where
  pub hash : List ℕ
  pub is : x ≡ object_id hash Catalogue
  pub place : Place
  pub reached : Reaches shelf from start hash place
  pub bytes : List ℕ
  pub there : shelf x ≡ Some bytes
  pub wrong : ((c : Contents) → Decodes place bytes c → ⊥) ⊎ ((c : Contents) × Decodes place bytes c × Misstates shelf c)

-- ---- the same from the root of the repository on

abbrev pub ReachesCatalogue : Shelf → List ℕ → List ℕ → Place → Type 0
ReachesCatalogue shelf root = Reaches shelf root root_place

abbrev pub Lacking : Shelf → List ℕ → ObjectId → Type 0
Lacking shelf root = LackingFrom shelf root root_place

abbrev pub Bad : Shelf → List ℕ → ObjectId → Type 0
Bad shelf root = BadFrom shelf root root_place

abbrev pub Reached : Shelf → List ℕ → ObjectId → Type 0
Reached shelf root = ReachedFrom shelf root root_place
