-- What is good: a catalogue that is there and decodes at its place, with all that it reaches there.
use Rattle.std.specs.Prelude.{◌≡◌, ℕ, List, length, Some, None, IsSomeAnd, Contains}
use Rattle.cv_base.specs.Path.{Path}
use Rattle.cv_base.specs.ObjectId.{object_id}
use Rattle.cv_base.specs.declared.id.ObjectId.{ObjectId}
use Rattle.cv_base.specs.declared.id.Kind.TheVariants.{Plain, Catalogue}
use Rattle.cv_ports.specs.Shelf.{Shelf}
use Rattle.cv_rows.specs.Catalogue.{Contents}
use Rattle.cv_rows.specs.Places.{StandsAt}
use Rattle.cv_rows.specs.declared.row.Row.{Row}
use Rattle.cv_rows.specs.declared.nested.Nested.{Nested}
use Rattle.cv_rows.specs.declared.row_kind.RowKind.TheVariants.{Transition, File}
use Rattle.cv_cut.specs.Reached.{Place, HasCatalogue}

-- bytes of this length stand under the id
abbrev pub HasSize : Shelf → ObjectId → ℕ → Type 0
HasSize shelf id size = IsSomeAnd (shelf id) (λ bytes. length bytes ≡ size)

-- the content of the row, if it is a file, has the row's size
abbrev pub HasFile : Shelf → Row → Type 0
HasFile shelf r = (hash : List ℕ) → r.kind ≡ File → r.hash ≡ Some hash → HasSize shelf (object_id hash Plain) r.size

-- The catalogue is there and decodes at the place. Its files, and the catalogues that its entries name, have the sizes that
-- it states. Each of these is good at its path, under its Transition row.
pub data IsGood (shelf : Shelf) : List ℕ → Place → Type 0 where
  good : {hash : List ℕ} {place : Place} {c : Contents} → HasCatalogue shelf hash place c
      → ((r : Row) → Contains c.rows r → HasFile shelf r)
      → ((n : Nested) → Contains c.nested n → HasSize shelf (object_id n.hash Catalogue) n.size)
      → ((n : Nested) (r : Row) → Contains c.nested n → r.kind ≡ Transition → StandsAt c.at c.rows r n.path → IsGood shelf n.hash (record { path = n.path; row = Some r }))
      → IsGood shelf hash place

-- a pair of a catalogue's hash and a path is whole: it is good there, whatever row names it
abbrev pub IsWholeAt : Shelf → List ℕ → Path → Type 0
IsWholeAt shelf hash path = IsGood shelf hash (record { path = path; row = None })
