-- Where the file of a name is made, and by which calls it becomes the name's.
use Rattle.std.proofs.Common.{◌≡◌, ◌∙◌, [], ◌∷◌, true, false, Bool, List, ℕ, ap, if◌then◌else◌}
use Rattle.cv_system.specs.Calls.{Begun, Renamed, Synced}
use Rattle.cv_system.specs.Names.{is_way, next_of, path_of}
use Rattle.cv_folder.specs.Writes.{made_at, named_by}

pub made_so : (root name next path at : List ℕ) → next ≡ next_of root name → path ≡ path_of root name → at ≡ (if is_way name then path else next) → at ≡ made_at root name
unfolding made_at
made_so root name next path at beside own is = is ∙ (λ i. if is_way name then own i else beside i)

module _ (root name : List ℕ) where
  pub made_on_way : is_way name ≡ true → made_at root name ≡ path_of root name
  unfolding made_at
  made_on_way way = ap (λ (is : Bool). if is then path_of root name else next_of root name) way

  pub made_beside : is_way name ≡ false → made_at root name ≡ next_of root name
  unfolding made_at
  made_beside other = ap (λ (is : Bool). if is then path_of root name else next_of root name) other

module _ (name at path : List ℕ) where
  pub named_on_way : is_way name ≡ true → named_by name at path ≡ Begun at ∷ []
  unfolding named_by
  named_on_way way = ap (λ (is : Bool). if is then Begun at ∷ [] else (Synced at ∷ Renamed at path ∷ [])) way

  pub named_beside : is_way name ≡ false → named_by name at path ≡ Synced at ∷ Renamed at path ∷ []
  unfolding named_by
  named_beside other = ap (λ (is : Bool). if is then Begun at ∷ [] else (Synced at ∷ Renamed at path ∷ [])) other
