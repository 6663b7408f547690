-- The tree of the names on the way to leases: where a path leads to, and what stands on its way. What only this crate's own functions say.
use Rattle.std.specs.Prelude.{◌≡◌, ◌≢◌, ◌||◌, ◌⊎◌, Bool, true, false, List, [], ◌∷◌, Option, None, Some, is_some}
use Rattle.cv_base.specs.Path.{Path}
use Rattle.cv_links.specs.declared.id.Id.{Id}
use Rattle.cv_links.specs.declared.arena.Arena.{Arena}
use Rattle.cv_links.specs.Arena.{value_at, IsLive}
use Rattle.cv_leases.specs.declared.names.Place.{Place}
use Rattle.cv_leases.specs.declared.names.Names.{Names}
use Rattle.cv_leases.specs.Names.{IsLeasedAt, IsNeeded, IsOver, IsPruned, below_of, is_leased, place_of, step}

-- a lease ends at this place, if it is one
abbrev pub leased_at : (Id → Option Place) → Option Id → Bool
leased_at at None = false
leased_at at (Some id) = is_leased (at id)

-- a place on the way of the path is leased, or the path leads to a place
abbrev pub meets : (Id → Option Place) → (Id → List Id) → Path → Option Id → Bool
meets at below [] from = is_some from
meets at below (name ∷ path) from = leased_at at from || meets at below path (step at below name from)

-- and but for this place and those above it
abbrev pub IsPrunedBut : Names → Id → Type 0
IsPrunedBut names from = (id : Id) → IsLive names.places id → (names.root ≡ Some id) ⊎ IsNeeded names.places id ⊎ IsOver names.places id from

-- no place is left bare, but for this one and those above it, if there is one
abbrev pub IsPrunedTo : Names → Option Id → Type 0
IsPrunedTo names None = IsPruned names
IsPrunedTo names (Some from) = IsPrunedBut names from

-- each path that led to a place leads there
abbrev pub SamePlaces : Names → Names → Type 0
SamePlaces old new = (path : Path) (id : Id) → place_of old path ≡ Some id → place_of new path ≡ Some id

-- leases end where they ended, and nowhere else
pub record SameLeased (old new : Names) : Type 0 where
  pub kept : (path : Path) (id : Id) → IsLeasedAt old path id → IsLeasedAt new path id
  pub none : (id : Id) → is_leased (value_at new.places id) ≡ true → is_leased (value_at old.places id) ≡ true

-- no lease ends at the place, and none is below it
pub record IsBare (places : Arena Place) (id : Id) : Type 0 where
  pub unleased : is_leased (value_at places id) ≡ false
  pub leaf : below_of places id ≡ []

-- a lease begins at the place
pub record Begins (old new : Names) (id : Id) : Type 0 where
  pub kept : (path : Path) (other : Id) → IsLeasedAt old path other → IsLeasedAt new path other
  pub here : (path : Path) → place_of old path ≡ Some id → IsLeasedAt new path id
  pub none : (other : Id) → other ≢ id → is_leased (value_at new.places other) ≡ true → is_leased (value_at old.places other) ≡ true

-- the lease at the place ends
pub record Ends (old new : Names) (id : Id) : Type 0 where
  pub kept : (path : Path) (other : Id) → other ≢ id → IsLeasedAt old path other → IsLeasedAt new path other
  pub none : (other : Id) → is_leased (value_at new.places other) ≡ true → (other ≢ id) × (is_leased (value_at old.places other) ≡ true)
