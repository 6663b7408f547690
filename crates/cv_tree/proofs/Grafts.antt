-- A tree with what stands at a path of another tree set at that path.
use Rattle.std.proofs.Common.{◌≡◌, ◌||◌, true, false, cond, List, ℕ, [], ◌∷◌, ◌++◌, is_some, refl, sym, ap, subst, ◌∙◌, append_assoc, append-nil}
use Rattle.std.specs.Prelude.{IfSome}
use Rattle.std.specs.declared.option.Option.TheVariants.{None, Some}
use Rattle.std.specs.FinMap.{empty, get, get-empty, same_map}
use Rattle.cv_base.specs.Path.{Path, path_cmp, covers, overlap}
use Rattle.cv_base.proofs.Laws.{not_before, path_total, path_exact}
use Rattle.cv_tree.specs.Tree.{Nodes, is_directory, HasParents, IsPart, IsTree, at, put}
use Rattle.cv_tree.specs.Changes.{has_place, nodes_of, subtree_of}
use Rattle.cv_tree.proofs.Replacements.{get-at, kept-put}
use Rattle.cv_tree.proofs.Shapes.{IsPart-at, IsTree-put, has_place-append}
use Rattle.cv_tree.proofs.Fits.{FitsUnder-nodes_of, FitsUnder-subtree_of}

-- ---- where nothing stands

none_next : (t : Nodes) (p : Path) (a : List ℕ) → HasParents t → get t p ≡ None → get t (p ++ a ∷ []) ≡ None
none_next t p a h none =
    elim (get t (p ++ a ∷ [])) as (λ o. get t (p ++ a ∷ []) ≡ o → o ≡ None) [
      | None ↦ λ _. refl
      | Some node ↦ λ there. let directory : is_directory (get t p) ≡ true = h p a (ap is_some there) in let other : is_directory (get t p) ≡ false = ap is_directory none in cc
    ] refl

-- nothing stands below a path where nothing stands
pub none_below : (t : Nodes) (p r : Path) → HasParents t → get t p ≡ None → get t (p ++ r) ≡ None
none_below t p [] h none = ap (get t) (append-nil p) ∙ none
none_below t p (a ∷ r) h none = ap (get t) (sym (append_assoc p (a ∷ []) r)) ∙ none_below t (p ++ a ∷ []) r h (none_next t p a h none)

at-none : (t : Nodes) (p : Path) → HasParents t → get t p ≡ None → at t p ≡ empty
at-none t p h none = same_map path_total path_exact _ _ (λ r. get-at t p r ∙ none_below t p r h none ∙ sym (get-empty path_cmp r))

-- the part at a path, or nothing, is what stands there
pub at-nodes_of : (t : Nodes) (p : Path) → IsPart t → nodes_of (subtree_of t p) ≡ at t p
at-nodes_of t p h =
    elim (get t p) as (λ o. get t p ≡ o → nodes_of (cond (is_some o) (Some (at t p)) None) ≡ at t p) [
      | None ↦ λ none. sym (at-none t p h.parents none)
      | Some node ↦ λ _. refl
    ] refl

pub part_of : (t : Nodes) (p : Path) → IsPart t → IfSome (subtree_of t p) IsPart
part_of t p h =
    elim (get t p) as (λ o. get t p ≡ o → IfSome (cond (is_some o) (Some (at t p)) None) IsPart) [
      | None ↦ λ _. tt
      | Some node ↦ λ there. IsPart-at t p h (ap is_some there)
    ] refl

-- ---- a tree stays a tree

pub IsTree-put_at : (t n : Nodes) (p : Path) → IsTree t → IsTree n → has_place t p ≡ true → IsTree (put t p (at n p))
IsTree-put_at t n p ht hn place =
    let part = subtree_of n p in
    let same : nodes_of part ≡ at n p = at-nodes_of n p hn.part in
    let whole : IsTree (put t p (nodes_of part)) = IsTree-put t p part ht (part_of n p hn.part) place (FitsUnder-nodes_of p part (FitsUnder-subtree_of n p hn))
    (λ root. ap (λ (s : Nodes). is_directory (get s [])) same ∙ ap is_directory (get-at n p [] ∙ ap (get n) (append-nil p ∙ root)) ∙ hn.root) in
    subst (λ (s : Nodes). IsTree (put t p s)) same whole

-- ---- places elsewhere

-- a path is the root, or has a last name
data Ends (q : Path) : Type 0 where
  top : q ≡ [] → Ends q
  below : (r : Path) (a : List ℕ) → q ≡ r ++ a ∷ [] → Ends q

ends : (q : Path) → Ends q
ends [] = top refl
ends (b ∷ q) = elim (ends q) [
  | top is ↦ below [] b (ap (λ (x : Path). b ∷ x) is)
  | below r a is ↦ below (b ∷ r) a (ap (λ (x : Path). b ∷ x) is)
]

pub not_overlap : (p q : Path) → overlap p q ≡ false → (covers p q ≡ false) × (covers q p ≡ false)
not_overlap p q h =
    elim (covers p q) as (λ b. (b || covers q p) ≡ false → (b ≡ false) × (covers q p ≡ false)) [
      | true ↦ λ e. cc
      | false ↦ λ e. (refl, e)
    ] h

-- a replacement at p leaves a place to each path that doesn't overlap it
pub has_place-put_apart : (t : Nodes) (p q : Path) (s : Nodes) → overlap p q ≡ false → has_place t q ≡ true → has_place (put t p s) q ≡ true
has_place-put_apart t p q s apart place =
    elim (ends q) [
      | top is ↦ ap (has_place (put t p s)) is
      | below r a is ↦
          let outside : covers p r ≡ false = not_before p r (a ∷ []) (ap (covers p) (sym is) ∙ (not_overlap p q apart).0) in
          ap (has_place (put t p s)) is ∙ has_place-append (put t p s) r a ∙ ap is_directory (kept-put t p s r outside) ∙ sym (has_place-append t r a) ∙ ap (has_place t) (sym is) ∙ place
    ]
