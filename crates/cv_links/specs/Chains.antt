-- What contracts see of a chain and its arena together: a list of ids.
use Rattle.std.specs.Prelude.{◌≡◌, ◌++◌, ℕ, zero, suc, length, List, [], ◌∷◌, Option, Some, None, Contains}
use Rattle.cv_links.specs.declared.id.Id.{Id}
use Rattle.cv_links.specs.declared.links.Link.{Link}
use Rattle.cv_links.specs.declared.links.Link.TheVariants.{Free, Held}
use Rattle.cv_links.specs.declared.arena.Arena.{Arena}
use Rattle.cv_links.specs.declared.chain.Chain.{Chain}
use Rattle.cv_links.specs.Arena.{link_at}

-- the first of a list, or else this
abbrev pub head_or : List Id → Option Id → Option Id
head_or [] other = other
head_or (x ∷ xs) other = Some x

-- the last of a list, or else this
abbrev pub last_or : List Id → Option Id → Option Id
last_or [] other = other
last_or (x ∷ xs) other = last_or xs (Some x)

-- each id of a segment stands between the one before it and the one after it; the segment itself stands
-- between these two
abbrev pub Runs : (Id → Option Link) → Option Id → List Id → Option Id → Type 0
Runs at before [] after = Unit {0}
Runs at before (x ∷ xs) after = (at x ≡ Some (Held before (head_or xs after))) × Runs at (Some x) xs after

-- no id comes twice
abbrev pub AreApart : List Id → Type 0
AreApart [] = Unit {0}
AreApart (x ∷ xs) = (Contains xs x → ⊥) × AreApart xs

module _ {T : Type 0} where
  -- in the arena the chain has this list
  pub record IsList (arena : Arena T) (chain : Chain) (ids : List Id) : Type 0 where
    pub first : chain.first ≡ head_or ids None
    pub last : chain.last ≡ last_or ids None
    pub runs : Runs (link_at arena chain.lane) None ids None
    pub apart : AreApart ids

-- no id stands in both
abbrev pub AreDisjoint : List Id → List Id → Type 0
AreDisjoint xs ys = (id : Id) → Contains xs id → Contains ys id → ⊥

-- the id that comes after one that stands so
abbrev pub after_of : Option Link → Option Id
after_of None = None
after_of (Some Free) = None
after_of (Some (Held before after)) = after

-- the ids from this one on, by the id that each says comes after it; no more than so many
abbrev pub follow : (Id → Option Link) → ℕ → Option Id → List Id
follow at zero from = []
follow at (suc more) None = []
follow at (suc more) (Some id) = id ∷ follow at more (after_of (at id))

module _ {T : Type 0} where
  -- the list of a chain
  abbrev pub list_of : Arena T → Chain → List Id
  list_of arena chain = follow (link_at arena chain.lane) (length arena.nodes.slots) chain.first

  -- the ids of a chain from this one on
  abbrev pub rest_of : Arena T → Chain → Option Id → List Id
  rest_of arena chain from = follow (link_at arena chain.lane) (length arena.nodes.slots) from

  -- the chain is of this arena
  abbrev pub IsChain : Arena T → Chain → Type 0
  IsChain arena chain = IsList arena chain (list_of arena chain)

  -- the chain is of both arenas, and has one list in them
  pub record SameList (old new : Arena T) (chain : Chain) : Type 0 where
    pub is : IsChain new chain
    pub list : list_of new chain ≡ list_of old chain

  -- all lists stay
  abbrev pub SameLists : Arena T → Arena T → Type 0
  SameLists old new = (chain : Chain) → IsChain old chain → SameList old new chain

  -- the other chain is of another lane, or its list holds neither the id nor one of the chain's
  abbrev pub IsElsewhere : Arena T → Chain → Id → Chain → Type 0
  IsElsewhere arena chain id other = other.lane ≡ chain.lane → AreDisjoint (id ∷ list_of arena chain) (list_of arena other)

  -- the lists of all chains elsewhere stay
  abbrev pub SameElsewhere : Arena T → Arena T → Chain → Id → Type 0
  SameElsewhere old new chain id = (other : Chain) → IsChain old other → IsElsewhere old chain id other → SameList old new other

-- what comes next after the id in the list
abbrev pub IsNext : List Id → Id → Option Id → Type 0
IsNext ids id next = (front back : List Id) → ids ≡ front ++ id ∷ back → next ≡ head_or back None

-- the new list has the id right after the place
abbrev pub IsPutAfter : List Id → List Id → Id → Id → Type 0
IsPutAfter old new place id = (front back : List Id) → old ≡ front ++ place ∷ back → new ≡ front ++ place ∷ id ∷ back

-- the new list lacks the id
abbrev pub IsTakenOut : List Id → List Id → Id → Type 0
IsTakenOut old new id = (front back : List Id) → old ≡ front ++ id ∷ back → new ≡ front ++ back

-- nothing stands in the chain
pub record IsEmpty (chain : Chain) : Type 0 where
  pub first : chain.first ≡ None
  pub last : chain.last ≡ None
