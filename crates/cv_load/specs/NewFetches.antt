-- What is fetched where known pairs are the ends.
use Rattle.std.specs.Prelude.{◌≡◌, ◌≢◌, ℕ, true, false, List, [], length, Some, All, AllPairs, Contains}
use Rattle.cv_base.specs.Path.{Path}
use Rattle.cv_base.specs.ObjectId.{object_id}
use Rattle.cv_base.specs.declared.id.ObjectId.{ObjectId}
use Rattle.cv_base.specs.declared.id.Kind.TheVariants.{Catalogue}
use Rattle.cv_ports.specs.Shelf.{Shelf}
use Rattle.cv_rows.specs.Catalogue.{Contents}
use Rattle.cv_rows.specs.Places.{StandsAt}
use Rattle.cv_rows.specs.declared.nested.Nested.{Nested}
use Rattle.cv_rows.specs.declared.row.Row.{Row}
use Rattle.cv_rows.specs.declared.row_kind.RowKind.TheVariants.{Transition}
use Rattle.cv_cut.specs.Reached.{Place, HasCatalogue, root_place}
use Rattle.cv_load.specs.declared.known_set.KnownSet.{KnownSet}
use Rattle.cv_load.specs.Fetches.{Visit}
use Rattle.cv_load.specs.Known.{is_known}
use Rattle.cv_ports.specs.Calls.{raised_by}

-- what is reached from a root through catalogues that aren't known
pub data ReachesNew (shelf : Shelf) (known : KnownSet) (top : List ℕ) : List ℕ → Place → Type 0 where
  new_root : ReachesNew shelf known top top root_place
  new_nested : {hash : List ℕ} {place : Place} {c : Contents} {n : Nested} {r : Row} → ReachesNew shelf known top hash place → is_known known hash place.path ≡ false → HasCatalogue shelf hash place c
      → Contains c.nested n → r.kind ≡ Transition → StandsAt c.at c.rows r n.path → ReachesNew shelf known top n.hash (record { path = n.path; row = Some r })

-- fetches of such catalogues, no two at one path; the count rose by as many
pub record VisitedNew (shelf : Shelf) (known : KnownSet) (top : List ℕ) (visits : List Visit) (before after : ℕ) : Type 0 where
  pub reached : All (λ v. ReachesNew shelf known top v.hash v.place) visits
  pub apart : AllPairs (λ v w. v.place.path ≢ w.place.path) visits
  pub taken : after ≡ raised_by (length visits) before

-- there were as many fetches as such visits; where the root is known there was none
abbrev pub FetchesNew : Shelf → KnownSet → List ℕ → ℕ → ℕ → Type 0
FetchesNew shelf known root before after = (visits : List Visit) × VisitedNew shelf known root visits before after × (is_known known root [] ≡ true → visits ≡ [])

-- each catalogue that is reached through catalogues that aren't known, and isn't known itself, is among the pairs
abbrev pub HasNew : Shelf → KnownSet → List ℕ → List (ObjectId × Path) → Type 0
HasNew shelf known root pairs = (hash : List ℕ) (place : Place) → ReachesNew shelf known root hash place → is_known known hash place.path ≡ false → Contains pairs (object_id hash Catalogue, place.path)

-- a pair of such a catalogue's id and its path
pub record IsNewPair (shelf : Shelf) (known : KnownSet) (root : List ℕ) (pair : ObjectId × Path) : Type 0 where
  pub kind : pair.0.kind ≡ Catalogue
  pub place : Place
  pub reached : ReachesNew shelf known root pair.0.hash place
  pub path : place.path ≡ pair.1
  pub fresh : is_known known pair.0.hash pair.1 ≡ false

-- each pair is one of such a catalogue, and no two have one path
pub record IsNewList (shelf : Shelf) (known : KnownSet) (root : List ℕ) (pairs : List (ObjectId × Path)) : Type 0 where
  pub each : All (IsNewPair shelf known root) pairs
  pub apart : AllPairs (λ p q. p.1 ≢ q.1) pairs
