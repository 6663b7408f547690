-- What is sent in packs, and in which order.
use Rattle.std.specs.Prelude.{◌≡◌, ◌≢◌, ◌≤◌, ◌<◌, ℕ, false, List, [], ◌∷◌, ◌++◌, length, map, All, AllPairs, Contains, slice_get, option_to_list}
use Rattle.std.specs.List.Sorted.{IsStrictlySortedBy}
use Rattle.cv_base.specs.ObjectId.{id_text}
use Rattle.cv_base.specs.declared.limits.TheConstants.{OBJECT_LIMIT}
use Rattle.cv_base.specs.declared.object.Object.{Object}
use Rattle.cv_base.specs.BytesOrder.{bytes_cmp}
use Rattle.cv_pack.specs.Pack.{contents_size, has_room, ids, IsPacked}
use Rattle.cv_pack.specs.declared.header_reader.TheConstants.{COUNT_LIMIT, TOTAL_LIMIT}

-- the texts of the ids of objects
abbrev pub id_texts : List Object → List (List ℕ)
id_texts os = map (λ o. id_text o.id) os

-- the objects at these places of a list; a place that isn't there has none
abbrev pub objects_at : List Object → List ℕ → List Object
objects_at all [] = []
objects_at all (place ∷ places) = option_to_list (slice_get all place) ++ objects_at all places

-- objects in ascending order of the texts of their ids: each is one of all, and of each id that one of all has there is one
pub record AreInOrder (all os : List Object) : Type 0 where
  pub ascend : IsStrictlySortedBy bytes_cmp (id_texts os)
  pub only : (o : Object) → Contains os o → Contains all o
  pub each : (o : Object) → Contains all o → Contains (id_texts os) (id_text o.id)

-- these places are there, and have objects of different ids that packs may have
pub record AreSendable (all : List Object) (places : List ℕ) : Type 0 where
  pub there : All (λ place. place < length all) places
  pub own : All IsPacked (objects_at all places)
  pub apart : AllPairs (λ a b. a ≢ b) (ids (objects_at all places))

-- the front of these objects that one pack takes: it keeps the limits of a pack, and no longer front does
pub record IsFront (os pack rest : List Object) : Type 0 where
  pub split : os ≡ pack ++ rest
  pub count : length pack ≤ COUNT_LIMIT
  pub sizes : All (λ o. length o.bytes ≤ OBJECT_LIMIT) pack
  pub total : contents_size pack ≤ TOTAL_LIMIT
  pub longest : (next : Object) (more : List Object) → rest ≡ next ∷ more → has_room pack next.bytes ≡ false
