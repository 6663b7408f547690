-- What is sent in packs, and in which order. What only this crate's own functions say.
use Rattle.std.specs.Prelude.{◌≡◌, ◌≤◌, ◌<◌, ℕ, List, length, slice_get, Option, Some, IsSome}
use Rattle.cv_base.specs.declared.id.Kind.TheVariants.{Catalogue}
use Rattle.cv_base.specs.declared.limits.TheConstants.{OBJECT_LIMIT}
use Rattle.cv_base.specs.declared.object.Object.{Object}

-- a catalogue that a pack may have
pub record IsCatalogueObject (o : Object) : Type 0 where
  pub kind : o.id.kind ≡ Catalogue
  pub size : length o.bytes ≤ OBJECT_LIMIT

-- a search by text finds a place of the text, where it is one of the first of these
pub record FindsFirst (texts : List (List ℕ)) (count : ℕ) (find : List ℕ → Option ℕ) : Type 0 where
  pub found : (text : List ℕ) (place : ℕ) → find text ≡ Some place → slice_get texts place ≡ Some text
  pub known : (text : List ℕ) (place : ℕ) → place < count → slice_get texts place ≡ Some text → IsSome (find text)
