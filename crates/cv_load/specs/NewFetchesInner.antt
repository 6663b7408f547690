-- What is fetched where known pairs are the ends. What only this crate's own functions say.
use Rattle.std.specs.Prelude.{◌≡◌, ℕ, true, false, List, ◌++◌, Some, All, Contains}
use Rattle.cv_base.specs.Path.{Path, covers}
use Rattle.cv_base.specs.ObjectId.{object_id}
use Rattle.cv_base.specs.declared.id.ObjectId.{ObjectId}
use Rattle.cv_base.specs.declared.id.Kind.TheVariants.{Catalogue}
use Rattle.cv_ports.specs.Shelf.{Shelf}
use Rattle.cv_rows.specs.Catalogue.{Contents}
use Rattle.cv_rows.specs.Places.{StandsAt}
use Rattle.cv_rows.specs.declared.nested.Nested.{Nested}
use Rattle.cv_rows.specs.declared.row.Row.{Row}
use Rattle.cv_rows.specs.declared.row_kind.RowKind.TheVariants.{Transition}
use Rattle.cv_cut.specs.Reached.{Place, HasCatalogue}
use Rattle.cv_load.specs.declared.known_set.KnownSet.{KnownSet}
use Rattle.cv_load.specs.Fetches.{Visit}
use Rattle.cv_load.specs.FetchesInner.{IsInside}
use Rattle.cv_load.specs.Known.{is_known}
use Rattle.cv_load.specs.NewFetches.{ReachesNew, VisitedNew, IsNewList}

-- what was fetched is inside the catalogue
pub record ChecksInside (shelf : Shelf) (known : KnownSet) (top : List ℕ) (c : Contents) (before after : ℕ) : Type 0 where
  pub visits : List Visit
  pub visited : VisitedNew shelf known top visits before after
  pub inside : All (λ v. IsInside c v.place.path) visits

-- of the catalogue that stands under an id, at each place at which it is reached and isn't known
abbrev pub ChecksBelow : Shelf → KnownSet → ObjectId → Contents → ℕ → ℕ → Type 0
ChecksBelow shelf known id c before after = (top : List ℕ) (place : Place) → ReachesNew shelf known top id.hash place → is_known known id.hash place.path ≡ false → HasCatalogue shelf id.hash place c
    → ChecksInside shelf known top c before after

-- the pairs have all that is reached from a catalogue through catalogues that aren't known, but for known ones
pub data IsListed (shelf : Shelf) (known : KnownSet) (pairs : List (ObjectId × Path)) : List ℕ → Place → Type 0 where
  ended : {hash : List ℕ} {place : Place} → is_known known hash place.path ≡ true → IsListed shelf known pairs hash place
  listed : {hash : List ℕ} {place : Place} {c : Contents} → HasCatalogue shelf hash place c → Contains pairs (object_id hash Catalogue, place.path)
      → ((n : Nested) (r : Row) → Contains c.nested n → r.kind ≡ Transition → StandsAt c.at c.rows r n.path → IsListed shelf known pairs n.hash (record { path = n.path; row = Some r }))
      → IsListed shelf known pairs hash place

-- a list has all of another
abbrev pub HasAll : List (ObjectId × Path) → List (ObjectId × Path) → Type 0
HasAll old new = (p : ObjectId × Path) → Contains old p → Contains new p

-- of the catalogue that stands under an id, at each place where it is
abbrev pub ListsFrom : Shelf → KnownSet → ObjectId → Contents → List (ObjectId × Path) → Type 0
ListsFrom shelf known id c pairs = (place : Place) → HasCatalogue shelf id.hash place c → IsListed shelf known pairs id.hash place

-- what was added to a list: pairs of such catalogues, at or below a path
pub record AddsNew (shelf : Shelf) (known : KnownSet) (top : List ℕ) (p : Path) (old new : List (ObjectId × Path)) : Type 0 where
  pub added : List (ObjectId × Path)
  pub is : new ≡ old ++ added
  pub list : IsNewList shelf known top added
  pub under : All (λ pair. covers p pair.1 ≡ true) added

-- of the catalogue that stands under an id, at each place at which it is reached and isn't known
abbrev pub AddsBelow : Shelf → KnownSet → ObjectId → Contents → List (ObjectId × Path) → List (ObjectId × Path) → Type 0
AddsBelow shelf known id c old new = (top : List ℕ) (place : Place) → ReachesNew shelf known top id.hash place → is_known known id.hash place.path ≡ false → HasCatalogue shelf id.hash place c
    → AddsNew shelf known top place.path old new
