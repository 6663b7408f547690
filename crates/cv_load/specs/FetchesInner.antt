-- Which catalogues a load fetches. What only this crate's own functions say.
use Rattle.std.specs.Prelude.{◌≡◌, ℕ, true, List, Some, Result, IfOk, All, Contains}
use Rattle.cv_base.specs.Path.{Path, covers}
use Rattle.cv_base.specs.declared.id.ObjectId.{ObjectId}
use Rattle.cv_ports.specs.Shelf.{Shelf}
use Rattle.cv_rows.specs.Catalogue.{Contents}
use Rattle.cv_rows.specs.Places.{StandsAt}
use Rattle.cv_rows.specs.declared.nested.Nested.{Nested}
use Rattle.cv_rows.specs.declared.row.Row.{Row}
use Rattle.cv_rows.specs.declared.row_kind.RowKind.TheVariants.{Transition}
use Rattle.cv_cut.specs.Reached.{Place, HasCatalogue, ReachesCatalogue}
use Rattle.cv_cut.specs.declared.load_fault.LoadFault.{LoadFault}
use Rattle.cv_load.specs.Fetches.{Visit, Visited}

-- ---- what single steps fetch

-- the path is that of a nested entry of the catalogue, or below it
abbrev pub IsInside : Contents → Path → Type 0
IsInside c q = (n : Nested) × Contains c.nested n × (covers n.path q ≡ true)

-- one of the visits is to the nested entry of the catalogue, at the place of its Transition row
abbrev pub HasEntry : List Visit → Contents → Nested → Type 0
HasEntry visits c n = (r : Row) → r.kind ≡ Transition → StandsAt c.at c.rows r n.path → Contains visits (record { hash = n.hash; place = record { path = n.path; row = Some r } })

-- so it is for each entry
abbrev pub HasEntries : List Visit → Contents → Type 0
HasEntries visits c = (n : Nested) → Contains c.nested n → HasEntry visits c n

-- and for those of each catalogue that was visited
abbrev pub IsClosed : Shelf → List Visit → Type 0
IsClosed shelf visits = (v : Visit) (c : Contents) → Contains visits v → HasCatalogue shelf v.hash v.place c → HasEntries visits c

-- these are all catalogues that are reached below this one
pub record AreBelow (shelf : Shelf) (c : Contents) (visits : List Visit) : Type 0 where
  pub own : HasEntries visits c
  pub deeper : IsClosed shelf visits

-- what was fetched is inside the catalogue, and after Ok all that is reached there
pub record FetchesInside (shelf : Shelf) (root : List ℕ) (c : Contents) (before after : ℕ) {X : Type 0} (result : Result X LoadFault) : Type 0 where
  pub visits : List Visit
  pub visited : Visited shelf root visits before after
  pub inside : All (λ v. IsInside c v.place.path) visits
  pub all : IfOk result (λ given. AreBelow shelf c visits)

-- the same of the catalogue that stands under an id, at each place at which it is reached
abbrev pub FetchesBelow : Shelf → ObjectId → Contents → ℕ → ℕ → {X : Type 0} → Result X LoadFault → Type 0
FetchesBelow shelf id c before after result = (root : List ℕ) (place : Place) → ReachesCatalogue shelf root id.hash place → HasCatalogue shelf id.hash place c
    → FetchesInside shelf root c before after result
