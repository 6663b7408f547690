-- The tree of the names on the way to leases: where a path leads to, and what stands on its way.
use Rattle.std.specs.Prelude.{◌≡◌, ◌≤◌, ◌⊎◌, ℕ, Bool, true, false, cond, List, [], ◌∷◌, length, Option, None, Some, IfSome, Contains}
use Rattle.cv_base.specs.Path.{Path, same_name}
use Rattle.cv_base.specs.declared.repo_path.TheConstants.{NAMES_LIMIT}
use Rattle.cv_links.specs.declared.id.Id.{Id}
use Rattle.cv_links.specs.declared.lane.Lane.TheVariants.{Tree, Time}
use Rattle.cv_links.specs.declared.arena.Arena.{Arena}
use Rattle.cv_links.specs.Arena.{value_at, IsLive, IsFree}
use Rattle.cv_links.specs.Chains.{IsChain, list_of}
use Rattle.cv_leases.specs.declared.names.Place.{Place}
use Rattle.cv_leases.specs.declared.names.Names.{Names}

-- the place has this name
abbrev pub has_name : List ℕ → Option Place → Bool
has_name name None = false
has_name name (Some place) = same_name place.name name

-- a lease ends at the place
abbrev pub is_leased : Option Place → Bool
is_leased None = false
is_leased (Some place) = place.leased

-- the place above a place
abbrev pub above_of : Option Place → Option Id
above_of None = None
above_of (Some place) = place.above

-- the first of these places that has the name
abbrev pub named : (Id → Option Place) → List ℕ → List Id → Option Id
named at name [] = None
named at name (id ∷ ids) = cond (has_name name (at id)) (Some id) (named at name ids)

-- the place of the name below a place
abbrev pub step : (Id → Option Place) → (Id → List Id) → List ℕ → Option Id → Option Id
step at below name None = None
step at below name (Some id) = named at name (below id)

-- the place that a path leads to from a place
abbrev pub reach : (Id → Option Place) → (Id → List Id) → Path → Option Id → Option Id
reach at below [] from = from
reach at below (name ∷ path) from = reach at below path (step at below name from)

-- the list of the places below one
abbrev pub list_below : Arena Place → Option Place → List Id
list_below places None = []
list_below places (Some place) = list_of places place.below

abbrev pub below_of : Arena Place → Id → List Id
below_of places id = list_below places (value_at places id)

-- where a path leads to from the root
abbrev pub place_of : Names → Path → Option Id
place_of names path = reach (value_at names.places) (below_of names.places) path names.root

-- the chain of those below each place is of the tree, they name it as the place above them, and it has those that name it
pub record IsTree (places : Arena Place) : Type 0 where
  pub chains : (id : Id) (place : Place) → value_at places id ≡ Some place → IsChain places place.below × (place.below.lane ≡ Tree)
  pub below : (id kid : Id) → Contains (below_of places id) kid → above_of (value_at places kid) ≡ Some id
  pub above : (id up : Id) → above_of (value_at places id) ≡ Some up → Contains (below_of places up) id
  pub alone : (id : Id) → IsLive places id → IsFree places Time id

-- from a place up, by the place above each, these places come, and the last of all is the top
abbrev pub Climbs : Arena Place → List Id → Id → Id → Type 0
Climbs places [] top from = from ≡ top
Climbs places (up ∷ way) top from = (above_of (value_at places from) ≡ Some up) × Climbs places way top up

-- the first place is the second, or stands above it
pub record IsOver (places : Arena Place) (top from : Id) : Type 0 where
  pub way : List Id
  pub climbs : Climbs places way top from

-- the root stands above the place, by at most so many names
pub record IsWithin (names : Names) (depth : ℕ) (id : Id) : Type 0 where
  pub root : Id
  pub is : names.root ≡ Some root
  pub way : List Id
  pub climbs : Climbs names.places way root id
  pub short : length way ≤ depth

-- what holds of the names at any time
pub record IsNames (names : Names) : Type 0 where
  pub tree : IsTree names.places
  pub root : IfSome names.root (λ id. IsLive names.places id × (above_of (value_at names.places id) ≡ None))
  pub rooted : (id : Id) → IsLive names.places id → IsWithin names NAMES_LIMIT id

-- a lease ends at the place or below it
pub record IsNeeded (places : Arena Place) (id : Id) : Type 0 where
  pub end : Id
  pub over : IsOver places id end
  pub leased : is_leased (value_at places end) ≡ true

-- a lease ends at each place or below it, but for the root
abbrev pub IsPruned : Names → Type 0
IsPruned names = (id : Id) → IsLive names.places id → (names.root ≡ Some id) ⊎ IsNeeded names.places id

-- a lease on this path ends at this place
pub record IsLeasedAt (names : Names) (path : Path) (id : Id) : Type 0 where
  pub place : place_of names path ≡ Some id
  pub leased : is_leased (value_at names.places id) ≡ true
