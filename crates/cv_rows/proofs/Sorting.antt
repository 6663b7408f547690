-- Rows in order of key.
use Rattle.std.proofs.Common.{◌≡◌, ◌≢◌, ℕ, ◌<◌, ◌≤◌, List, [], ◌∷◌, length, get_or, Result, Ok, Err, refl, sym, ap, subst, ◌∙◌, arith, inl, inr, MatchOption}
use Rattle.std.specs.Prelude.{Contains}
use Rattle.std.specs.Result.{result_ok}
use Rattle.std.specs.declared.cmp.Ordering.{Ordering}
use Rattle.std.specs.declared.cmp.Ordering.TheVariants.{Less, Equal, Greater}
use Rattle.std.specs.Ordering.{ordering_index}
use Rattle.std.specs.Cmp.{IsTotalOrder, tied_itself}
use Rattle.std.specs.Cmp.Lexicographic.{nat_list_cmp_total}
use Rattle.std.specs.List.{HoldsAt, AllAdjacentBelow}
use Rattle.std.specs.List.Sorted.{IsStrictlySortedBy, IsBinarySearchResult, IsNonDecreasingBy, IsSearchInRange}
use Rattle.std.proofs.lemmas.Bool.{cases_lt}
use Rattle.std.proofs.lemmas.List.{get_or_default}
use Rattle.std.proofs.lemmas.Map.Keys.{Less-from_sorted, sorted_from_all_adjacent}
use Rattle.cv_base.specs.BytesOrder.{bytes_cmp}
use Rattle.cv_base.specs.Path.{text_of}
use Rattle.cv_base.proofs.Laws.{not_less, name_exact}
use Rattle.cv_rows.specs.Catalogue.{row_cmp, nested_cmp}
use Rattle.cv_rows.specs.declared.row.Row.{Row}

pub row_total : IsTotalOrder row_cmp
row_total = record {
  antisymm = λ x y. nat_list_cmp_total.antisymm x.key.0 y.key.0;
  trans = λ x y z. nat_list_cmp_total.trans x.key.0 y.key.0 z.key.0;
  congr = λ x y z. nat_list_cmp_total.congr x.key.0 y.key.0 z.key.0;
}

pub nested_total : IsTotalOrder nested_cmp
nested_total = record {
  antisymm = λ x y. nat_list_cmp_total.antisymm (text_of x.path) (text_of y.path);
  trans = λ x y z. nat_list_cmp_total.trans (text_of x.path) (text_of y.path) (text_of z.path);
  congr = λ x y z. nat_list_cmp_total.congr (text_of x.path) (text_of y.path) (text_of z.path);
}

sorted_none : {X : Type 0} (cmp : X → X → Ordering) → IsStrictlySortedBy cmp []
unfolding IsStrictlySortedBy
sorted_none cmp = tt

-- where each is above its predecessor, the list is sorted
pub sorted_all : {X : Type 0} {cmp : X → X → Ordering} → IsTotalOrder cmp → (xs : List X) (i : ℕ) → length xs ≤ i → AllAdjacentBelow (λ x y. cmp x y ≡ Less) xs i → IsStrictlySortedBy cmp xs
sorted_all {X} {cmp} total [] i all h = sorted_none cmp
sorted_all {X} {cmp} total (x ∷ xs) i all h = sorted_from_all_adjacent total (x ∷ xs) x (λ k lt. h k x (omega arith))

-- an index has its key for itself
pub same_index : (rows : List Row) (i j : ℕ) (d : Row) → IsStrictlySortedBy row_cmp rows → i < length rows → j < length rows → (get_or rows i d).key.0 ≡ (get_or rows j d).key.0 → i ≡ j
same_index rows i j d sorted li lj same =
    elim (cases_lt i j) [
      | inl less ↦ absurd (not_less (get_or rows i d).key.0 (get_or rows j d).key.0 (Less-from_sorted row_cmp rows i j d sorted less lj) same)
      | inr ge ↦ elim (cases_lt j i) [
        | inl less ↦ absurd (not_less (get_or rows j d).key.0 (get_or rows i d).key.0 (Less-from_sorted row_cmp rows j i d sorted less li) (sym same))
        | inr le ↦ omega arith
      ]
    ]

-- the row with the key of the row at an index is that row
pub same_row : (rows : List Row) (j : ℕ) (d p : Row) → IsStrictlySortedBy row_cmp rows → j < length rows → Contains rows p → (get_or rows j d).key.0 ≡ p.key.0 → get_or rows j d ≡ p
same_row rows j d p sorted lj has same =
    let at_k : get_or rows has.0 d ≡ p = get_or_default rows has.0 d p has.1 ∙ has.2 in
    let index : j ≡ has.0 = same_index rows j has.0 d sorted lj has.1 (same ∙ ap (λ (r : Row). r.key.0) (sym at_k)) in
    ap (λ (k : ℕ). get_or rows k d) index ∙ at_k

-- a key that is above another stands above what that stands above
rises : (x y k : List ℕ) → bytes_cmp x y ≡ Less → ordering_index (bytes_cmp x k) ≤ ordering_index (bytes_cmp y k)
rises x y k less =
    elim (bytes_cmp y k) as (λ o. bytes_cmp y k ≡ o → ordering_index (bytes_cmp x k) ≤ ordering_index o) [
      | Less ↦ λ e. rw (nat_list_cmp_total.trans x y k less e) (omega arith)
      | Equal ↦ λ e. let same : y ≡ k = name_exact y k e in rw (subst (λ (z : List ℕ). bytes_cmp x z ≡ Less) same less) (omega arith)
      | Greater ↦ λ e. at_most (bytes_cmp x k)
    ] refl
  where
    at_most : (o : Ordering) → ordering_index o ≤ 2
    at_most Less = omega arith
    at_most Equal = omega arith
    at_most Greater = omega arith

never_falls : (rows : List Row) (key : List ℕ) → IsStrictlySortedBy row_cmp rows → IsNonDecreasingBy (λ y. ordering_index (bytes_cmp y.key.0 key)) rows
never_falls rows key sorted i j d le lt =
    elim (cases_lt i j) [
      | inl less ↦ rises (get_or rows i d).key.0 (get_or rows j d).key.0 key (Less-from_sorted row_cmp rows i j d sorted less lt)
      | inr ge ↦ let same : i ≡ j = omega arith in subst (λ (k : ℕ). ordering_index (bytes_cmp (get_or rows i d).key.0 key) ≤ ordering_index (bytes_cmp (get_or rows k d).key.0 key)) same (omega arith)
    ]

-- what a search for a key answers
pub found_by_key : (rows : List Row) (key : List ℕ) (r : Result ℕ ℕ) → IsStrictlySortedBy row_cmp rows → IsSearchInRange r (length rows) → IsBinarySearchResult (λ y. bytes_cmp y.key.0 key) rows r
    → MatchOption (result_ok r) ((p : Row) → Contains rows p → p.key.0 ≢ key) (λ i. (i < length rows) × HoldsAt (λ p. p.key.0 ≡ key) rows i)
found_by_key rows key (Ok i) sorted bound h = (bound, λ d. name_exact (get_or rows i d).key.0 key (h d))
found_by_key rows key (Err i) sorted bound h =
    let parts = h (never_falls rows key sorted) in
    λ p has same.
    let tied : bytes_cmp p.key.0 key ≡ Equal = subst (λ (z : List ℕ). bytes_cmp p.key.0 z ≡ Equal) same (tied_itself nat_list_cmp_total p.key.0) in
    elim (cases_lt has.0 i) [
      | inl less ↦ let wrong : bytes_cmp p.key.0 key ≡ Less = subst (λ (q : Row). bytes_cmp q.key.0 key ≡ Less) has.2 (parts.0 has.0 p (omega arith) less) in cc
      | inr ge ↦ let wrong : bytes_cmp p.key.0 key ≡ Greater = subst (λ (q : Row). bytes_cmp q.key.0 key ≡ Greater) has.2 (parts.1 has.0 p ge has.1) in cc
    ]
