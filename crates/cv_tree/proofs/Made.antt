-- Maps that are made of entries, the last first.
use Rattle.std.proofs.Common.{◌≡◌, List, [], ◌∷◌, ◌++◌, sym, ap, ◌∙◌, append_assoc}
use Rattle.std.specs.FinMap.{FinMap, insert, from_entries}
use Rattle.cv_base.specs.Path.{Path, path_cmp}

-- the entries that aren't left are in the map
pub record IsMadeOf {X : Type 0} (left all : List (Path × X)) (made : FinMap path_cmp X) : Type 0 where
  pub done : List (Path × X)
  pub split : all ≡ left ++ done
  pub map : made ≡ from_entries done

-- the last that was left is in it
pub one_made : {X : Type 0} {left left' all : List (Path × X)} {made made' : FinMap path_cmp X} (k : Path) (v : X) → IsMadeOf left all made
    → left ≡ left' ++ (k, v) ∷ [] → made' ≡ insert made k v → IsMadeOf left' all made'
one_made {X} {left} {left'} {all} {made} {made'} k v h last set = record {
  done = (k, v) ∷ h.done;
  split = h.split ∙ ap (λ (l : List (Path × X)). l ++ h.done) last ∙ append_assoc left' ((k, v) ∷ []) h.done;
  map = set ∙ ap (λ (m : FinMap path_cmp X). insert m k v) h.map;
}

pub all_made : {X : Type 0} {all : List (Path × X)} {made : FinMap path_cmp X} → IsMadeOf [] all made → made ≡ from_entries all
all_made h = h.map ∙ ap from_entries (sym h.split)
