-- What contracts see of an arena: a finite map from ids to values, where its nodes stand, and room.
use Rattle.std.specs.Prelude.{◌≡◌, ◌≢◌, ℕ, ◌-◌, Option, Some, IsSome, option_map}
use Rattle.slab.specs.Slab.{get, slab_len}
use Rattle.cv_links.specs.declared.id.Id.{Id}
use Rattle.cv_links.specs.declared.lane.Lane.{Lane}
use Rattle.cv_links.specs.declared.links.Link.{Link}
use Rattle.cv_links.specs.declared.links.Link.TheVariants.{Free}
use Rattle.cv_links.specs.declared.arena.Arena.{Arena}
use Rattle.cv_links.specs.Links.{link_in}

module _ {T : Type 0} where
  -- the value of an id, if it is live
  abbrev pub value_at : Arena T → Id → Option T
  value_at arena id = option_map (λ node. node.value) (get arena.nodes id.place)

  -- the id is live
  abbrev pub IsLive : Arena T → Id → Type 0
  IsLive arena id = IsSome (value_at arena id)

  -- where a live id stands in a lane
  abbrev pub link_at : Arena T → Lane → Id → Option Link
  link_at arena lane id = option_map (λ node. link_in node.links lane) (get arena.nodes id.place)

  -- the id is live, and stands in no list of the lane
  abbrev pub IsFree : Arena T → Lane → Id → Type 0
  IsFree arena lane id = link_at arena lane id ≡ Some Free

  -- how many more values fit without taking memory
  abbrev pub spare : Arena T → ℕ
  spare arena = arena.nodes.capacity - slab_len arena.nodes

  -- the second arena has this at the id, and at every other id what the first has
  pub record Puts (old new : Arena T) (id : Id) (value : Option T) : Type 0 where
    pub here : value_at new id ≡ value
    pub others : (other : Id) → other ≢ id → value_at new other ≡ value_at old other

  -- every id has the value it had
  abbrev pub SameValues : Arena T → Arena T → Type 0
  SameValues old new = (id : Id) → value_at new id ≡ value_at old id

  -- the same values and room
  pub record SameContents (old new : Arena T) : Type 0 where
    pub values : SameValues old new
    pub room : spare new ≡ spare old

  -- every id stands where it stood
  abbrev pub SameLinks : Arena T → Arena T → Type 0
  SameLinks old new = (lane : Lane) (id : Id) → link_at new lane id ≡ link_at old lane id

  -- every other id stands where it stood
  abbrev pub SameLinksBut : Arena T → Arena T → Id → Type 0
  SameLinksBut old new id = (lane : Lane) (other : Id) → other ≢ id → link_at new lane other ≡ link_at old lane other

  -- all other lanes stay, and in this lane every other id that is free stays free
  pub record SameFreedomBut (old new : Arena T) (lane : Lane) (id : Id) : Type 0 where
    pub lanes : (other : Lane) → other ≢ lane → (at : Id) → link_at new other at ≡ link_at old other at
    pub free : (other : Id) → other ≢ id → IsFree old lane other → IsFree new lane other
