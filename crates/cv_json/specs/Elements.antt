-- The elements of JSON arrays.
use Rattle.std.specs.Prelude.{List, [], ◌∷◌}
use Rattle.serde_json.specs.Data.{Data, Items, no_items, item}

-- the elements of an array
abbrev pub elements : Items → List Data
elements no_items = []
elements (item d ds) = d ∷ elements ds
