-- The places of ids in a list.
use Rattle.std.specs.Prelude.{ℕ, Bool, List, Option, is_some}
use Rattle.std.specs.BTreeMap.{BTreeMap, get}
use Rattle.cv_base.specs.BytesOrder.{bytes_cmp}
use Rattle.cv_base.specs.declared.id.Kind.{Kind}
use Rattle.cv_base.specs.declared.id.Kind.TheVariants.{Plain, Catalogue, History}
use Rattle.cv_base.specs.declared.id.ObjectId.{ObjectId}
use Rattle.cv_objects.specs.declared.places.Places.{Places}

-- the places of the ids of one kind, by their hashes
abbrev pub of_kind : Places → Kind → BTreeMap (List ℕ) ℕ
of_kind places Plain = places.plain
of_kind places Catalogue = places.catalogues
of_kind places History = places.records

-- the place of an id, if it is noted
abbrev pub place_of : Places → ObjectId → Option ℕ
place_of places id = get bytes_cmp (of_kind places id.kind) id.hash

abbrev pub is_noted : Places → ObjectId → Bool
is_noted places id = is_some (place_of places id)
