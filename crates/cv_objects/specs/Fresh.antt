-- What a batch brings to a shelf.
use Rattle.std.specs.Prelude.{List, [], ◌∷◌, map, not, is_none}
use Rattle.std.specs.List.{filter}
use Rattle.cv_base.specs.declared.id.ObjectId.{ObjectId}
use Rattle.cv_base.specs.declared.object.Object.{Object}
use Rattle.cv_ports.specs.Objects.{same_id}
use Rattle.cv_ports.specs.Shelf.{Shelf}

-- each id where it stands first
abbrev pub each_once : List ObjectId → List ObjectId
each_once [] = []
each_once (id ∷ ids) = id ∷ filter (λ other. not (same_id id other)) (each_once ids)

-- the ids of the objects that the shelf lacks
abbrev pub lacking : List Object → Shelf → List ObjectId
lacking objects shelf = filter (λ id. is_none (shelf id)) (map (λ object. object.id) objects)

-- each of them once
abbrev pub fresh_of : List Object → Shelf → List ObjectId
fresh_of objects shelf = each_once (lacking objects shelf)
