-- Which catalogues a load fetches.
use Rattle.std.specs.Prelude.{◌≡◌, ◌≢◌, ℕ, List, length, All, AllPairs}
use Rattle.cv_ports.specs.Calls.{raised_by}
use Rattle.cv_ports.specs.Shelf.{Shelf}
use Rattle.cv_cut.specs.Reached.{Place, ReachesCatalogue}

-- a fetch of the catalogue under a hash, for a place
pub record Visit : Type 0 where
  pub hash : List ℕ
  pub place : Place

-- each visit is to a catalogue that is reached at its place, no two are to one path, and the count of fetches rose by as many
pub record Visited (shelf : Shelf) (root : List ℕ) (visits : List Visit) (before after : ℕ) : Type 0 where
  pub reached : All (λ v. ReachesCatalogue shelf root v.hash v.place) visits
  pub apart : AllPairs (λ v w. v.place.path ≢ w.place.path) visits
  pub taken : after ≡ raised_by (length visits) before

-- there were as many fetches as such visits: to catalogues that are reached, at each path one at most
abbrev pub FetchesOnce : Shelf → List ℕ → ℕ → ℕ → Type 0
FetchesOnce shelf root before after = (visits : List Visit) × Visited shelf root visits before after
