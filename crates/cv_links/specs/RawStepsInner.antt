-- What the raw steps do, that change where one node stands in one lane: for this crate's own proofs.
use Rattle.std.specs.Prelude.{◌≡◌, ◌≢◌, ◌++◌, List, ◌∷◌, Option, Some, None, option_map}
use Rattle.cv_links.specs.declared.id.Id.{Id}
use Rattle.cv_links.specs.declared.lane.Lane.{Lane}
use Rattle.cv_links.specs.declared.links.Link.{Link}
use Rattle.cv_links.specs.declared.arena.Arena.{Arena}
use Rattle.cv_links.specs.Arena.{link_at, IsFree, SameContents}
use Rattle.cv_links.specs.Chains.{head_or, last_or, Runs, AreApart}

-- an end of a list: a new one where nothing stands on its side, and else the old one
abbrev pub end_of : Option Id → Option Id → Option Id → Option Id
end_of None old new = new
end_of (Some side) old new = old

module _ {T : Type 0} where
  -- the id stands there in the lane, and all else is as it was
  pub record Relinks (old new : Arena T) (lane : Lane) (id : Id) (link : Option Link) : Type 0 where
    pub here : link_at new lane id ≡ link
    pub others : (other : Id) → other ≢ id → link_at new lane other ≡ link_at old lane other
    pub lanes : (other : Lane) → other ≢ lane → (at : Id) → link_at new other at ≡ link_at old other at
    pub same : SameContents old new

  -- where an id stands in the lane is changed like this, if there is such an id, and all else is as it was
  pub record Mends (old new : Arena T) (lane : Lane) (place : Option Id) (change : Link → Link) : Type 0 where
    pub here : (id : Id) → place ≡ Some id → link_at new lane id ≡ option_map change (link_at old lane id)
    pub others : (id : Id) → place ≢ Some id → link_at new lane id ≡ link_at old lane id
    pub lanes : (other : Lane) → other ≢ lane → (at : Id) → link_at new other at ≡ link_at old other at
    pub same : SameContents old new

  -- no more than where these ids stand in the lane is changed
  pub record Touches (old new : Arena T) (lane : Lane) (id : Id) (before after : Option Id) : Type 0 where
    pub others : (other : Id) → other ≢ id → before ≢ Some other → after ≢ Some other → link_at new lane other ≡ link_at old lane other
    pub free : (other : Id) → other ≢ id → IsFree old lane other → IsFree new lane other
    pub lanes : (other : Lane) → other ≢ lane → (at : Id) → link_at new other at ≡ link_at old other at
    pub same : SameContents old new

  -- the id comes between the two parts of each list that it is put between
  abbrev pub Joins : Arena T → Arena T → Lane → Id → Option Id → Option Id → Type 0
  Joins old new lane id before after = (xs ys : List Id) → Runs (link_at old lane) None (xs ++ ys) None → AreApart (xs ++ ys)
      → before ≡ last_or xs None → after ≡ head_or ys None → Runs (link_at new lane) None (xs ++ id ∷ ys) None

  -- the two parts of a list are joined without the id between them
  abbrev pub Parts : Arena T → Arena T → Lane → Id → Option Id → Option Id → Type 0
  Parts old new lane id before after = (xs ys : List Id) → Runs (link_at old lane) None (xs ++ id ∷ ys) None → AreApart (xs ++ id ∷ ys)
      → before ≡ last_or xs None → after ≡ head_or ys None → Runs (link_at new lane) None (xs ++ ys) None
