-- The elements of JSON arrays.
use Rattle.std.proofs.Common.{◌≡◌, List, [], ◌∷◌, refl, ap}
use Rattle.serde_json.specs.Data.{Data}
use Rattle.serde_json.specs.View.{items_of}
use Rattle.cv_json.specs.Elements.{elements}

-- the elements of a list that was made an array
pub elements-items_of : (ds : List Data) → elements (items_of ds) ≡ ds
elements-items_of [] = refl
elements-items_of (d ∷ ds) = ap (λ (w : List Data). d ∷ w) (elements-items_of ds)
