-- Parts of a path, and paths with more names, within the limits of a path.
use Rattle.std.proofs.Common.{◌≡◌, ℕ, ◌+◌, true, false, cond, ◌&&◌, List, [], ◌∷◌, ◌++◌, length, take, drop, get_or, drop-cons, add-one, suc, ◌<◌, Option, Some, None, refl, sym, ap, subst, ◌∙◌, append_assoc, length-append, arith}
use Rattle.std.specs.Prelude.{Ok, Err, nat_lt}
use Rattle.std.specs.List.{list_all}
use Rattle.std.proofs.lemmas.Bool.{and_parts}
use Rattle.std.proofs.lemmas.List.Folds.{list_all-append}
use Rattle.std.proofs.lemmas.List.Concat.{flat_map-append}
use Rattle.std.specs.Cmp.Lexicographic.{pointwise}
use Rattle.cv_base.specs.Path.{Path, text_of, is_path_name, behind, same_name, IsPath}
use Rattle.cv_base.proofs.Laws.{behind-Some, same_name-symm}
use Rattle.cv_base.specs.declared.path_fault.PathFault.TheVariants.{TooLong, TooDeep}
use Rattle.cv_base.specs.PathText.{joined, within_limits, of_names}

text_of-append : (p q : Path) → text_of (p ++ q) ≡ text_of p ++ text_of q
text_of-append p q = flat_map-append (λ name. 47 ∷ name) p q

names_of_both : (p q : Path) → IsPath (p ++ q) → (list_all is_path_name p ≡ true) × (list_all is_path_name q ≡ true)
names_of_both p q h = and_parts _ _ (sym (list_all-append is_path_name p q) ∙ h.names)

size_of_both : (p q : Path) → length (text_of (p ++ q)) ≡ length (text_of p) + length (text_of q)
size_of_both p q = ap length (text_of-append p q) ∙ length-append (text_of p) (text_of q)

-- what is behind the front of a path is a path
pub IsPath-back : (p q : Path) → IsPath (p ++ q) → IsPath q
IsPath-back p q h = record {
  names = (names_of_both p q h).1;
  depth = let d = h.depth in let e = length-append p q in omega arith;
  size = let d = h.size in let e = size_of_both p q in omega arith;
}

-- what is behind a path, as the code takes it from the names
behind-names : (p q : Path) → behind p q ≡ cond (pointwise same_name (take (length p) q) p) (Some (drop (length p) q)) None
behind-names [] q = refl
behind-names (a ∷ p) [] = refl
behind-names (a ∷ p) (b ∷ q) =
    rw (same_name-symm a b) (elim (same_name b a) as (λ t. cond t (behind p q) None ≡ cond (t && pointwise same_name (take (length p) q) p) (Some (drop (length p) q)) None) [
      | true ↦ behind-names p q
      | false ↦ refl
    ])

-- where the code strips the names of p from those of q
pub stripped-Some : (p q front names rest : Path) → front ≡ p → names ≡ q → pointwise same_name (take (length front) names) front ≡ true
    → rest ≡ drop (length front) names → behind p q ≡ Some rest
stripped-Some p q front names rest is_front is_names same is =
    ap (λ x. behind x q) (sym is_front) ∙ ap (behind front) (sym is_names) ∙ behind-names front names ∙ rw same (ap Some (sym is))

pub stripped-None : (p q front names : Path) → front ≡ p → names ≡ q → pointwise same_name (take (length front) names) front ≡ false → behind p q ≡ None
stripped-None p q front names is_front is_names apart =
    ap (λ x. behind x q) (sym is_front) ∙ ap (behind front) (sym is_names) ∙ behind-names front names ∙ rw apart refl

-- what is left of a path is a path
pub IsPath-behind : (p q rest : Path) → IsPath q → behind p q ≡ Some rest → IsPath rest
IsPath-behind p q rest h is = IsPath-back p rest (subst IsPath (behind-Some p q rest is) h)

within-Ok : (size : ℕ) (path : Path) (bad : Option ℕ) (r : Path) → within_limits size path bad ≡ Ok r → r ≡ path
within-Ok size path bad r h =
    elim (nat_lt 4095 size) as (λ t. cond t (Err TooLong) (cond (nat_lt 64 (length path)) (Err TooDeep) (of_names path bad)) ≡ Ok r → r ≡ path) [
      | true ↦ λ k. cc
      | false ↦ λ k. elim (nat_lt 64 (length path)) as (λ t. cond t (Err TooDeep) (of_names path bad) ≡ Ok r → r ≡ path) [
        | true ↦ λ m. cc
        | false ↦ λ m. elim bad as (λ o. of_names path o ≡ Ok r → r ≡ path) [ None ↦ λ n. cc | Some place ↦ λ n. cc ] m
      ] k
    ] h

-- what was joined is the path with the name
pub joined-Ok : (p : Path) (name : List ℕ) (r : Path) → Ok r ≡ joined p name → r ≡ p ++ name ∷ []
joined-Ok p name r h = within-Ok _ (p ++ name ∷ []) _ r (sym h)

-- one more of the names behind a start was joined
pub joined-next : (start names path : Path) (i : ℕ) (name : List ℕ) (longer : Path) → path ++ drop i names ≡ start ++ names
    → i < length names → name ≡ get_or names i name → Ok longer ≡ joined path name → longer ++ drop (i + 1) names ≡ start ++ names
joined-next start names path i name longer before more is made =
    let split : drop i names ≡ name ∷ drop (i + 1) names = rw add-one (drop-cons names i name more ∙ ap (λ w. w ∷ drop (suc i) names) (sym is)) in
    let rest = drop (i + 1) names in
    ap (λ w. w ++ rest) (joined-Ok path name longer made) ∙ append_assoc path (name ∷ []) rest ∙ ap (λ w. path ++ w) (sym split) ∙ before
