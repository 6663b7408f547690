-- Rows in the order of their keys, and nested entries in that of their texts, are the same ones.
use Rattle.std.proofs.Common.{◌≡◌, ℕ, zero, suc, true, cond, None, Some, List, [], ◌∷◌, map, refl, sym, ap, subst, ◌∙◌, arith}
use Rattle.std.specs.Prelude.{Contains, slice_get}
use Rattle.std.specs.declared.cmp.Ordering.{Ordering}
use Rattle.std.specs.declared.cmp.Ordering.TheVariants.{Less, Equal, Greater}
use Rattle.std.specs.Ordering.{is_eq, is_lt}
use Rattle.std.specs.Cmp.Lexicographic.{nat_list_cmp_total}
use Rattle.std.specs.List.{AllByRecursion}
use Rattle.std.specs.List.Sorted.{IsPermutation, IsStrictlySortedBy}
use Rattle.std.specs.FinMap.{find, put, entries, entries_sorted, is_sorted, from_entries, values, get-entries, get-from_entries, entries-insert, empty, len-entries, len-empty}
use Rattle.std.specs.FinMap.Entries.{below_all, by_order}
use Rattle.std.proofs.lemmas.List.{nil_from_length}
use Rattle.std.proofs.lemmas.List.Sorted.{IsPermutation-refl, IsPermutation-sym, IsPermutation-cons, IsPermutation-trans, IsPermutation-middle, IsPermutation-map, Contains-permutation}
use Rattle.cv_rows.specs.Made.{AreApart}
use Rattle.std.proofs.lemmas.Option.{slice_get-get_or}
use Rattle.cv_base.specs.BytesOrder.{bytes_cmp}
use Rattle.cv_base.proofs.Laws.{first_true, second_true, is_less, name_exact}
use Rattle.cv_cut.proofs.Members.{first_there, later_there, comes_from}
use Rattle.cv_cut.proofs.Entries.{found_there}
use Rattle.cv_cut.proofs.Bools.{so}
use Rattle.cv_cut.proofs.Lists.{tail_apart}

-- ---- an entry with a new key is put among the others
module _ {K X : Type 0} (R : K → K → Ordering) where
  put_moves : (k : K) (v : X) (es : List (K × X)) → find R k es ≡ None → IsPermutation ((k, v) ∷ es) (put R k v es)
  put_moves k v [] new = IsPermutation-refl ((k, v) ∷ [])
  put_moves k v (e ∷ es) new =
      elim (R k e.0) as (λ r. cond (is_eq r) (Some e.1) (find R k es) ≡ None → IsPermutation ((k, v) ∷ e ∷ es) (by_order r ((k, v) ∷ e ∷ es) ((e.0, v) ∷ es) (e ∷ put R k v es))) [
        | Less ↦ λ h. IsPermutation-refl ((k, v) ∷ e ∷ es)
        | Equal ↦ λ h. cc
        | Greater ↦ λ h.
            IsPermutation-trans ((k, v) ∷ e ∷ es) (e ∷ (k, v) ∷ es) (e ∷ put R k v es)
            (IsPermutation-sym (e ∷ (k, v) ∷ es) ((k, v) ∷ e ∷ es) (IsPermutation-middle (e ∷ []) (k, v) es))
            (IsPermutation-cons e ((k, v) ∷ es) (put R k v es) (put_moves k v es h))
      ] new

module _ {X : Type 0} where
  key_place : (es : List (List ℕ × X)) (i : ℕ) (k : List ℕ) (v : X) → slice_get es i ≡ Some (k, v) → slice_get (map (λ e. e.0) es) i ≡ Some k
  key_place [] i k v h = absurd cc
  key_place (e ∷ es) zero k v h = cc
  key_place (e ∷ es) (suc i) k v h = key_place es i k v h

module _ {X : Type 0} where
  new_key : (k : List ℕ) (es : List (List ℕ × X)) → AreApart (k ∷ map (λ e. e.0) es) → find bytes_cmp k es ≡ None
  new_key k es apart =
      elim (find bytes_cmp k es) as (λ o. find bytes_cmp k es ≡ o → o ≡ None) [
        | None ↦ λ e. refl
        | Some w ↦ λ e.
            let has = found_there name_exact es k w e in
            let at : slice_get es has.0 ≡ Some (k, w) = slice_get-get_or es has.0 (k, w) has.1 ∙ ap Some has.2 in
            absurd (apart k (record { first = 0; second = suc has.0; order = omega arith; one = refl; other = key_place es has.0 k w at }))
      ] refl

  -- a map of entries with keys apart has just these entries
  moved : (es : List (List ℕ × X)) → AreApart (map (λ e. e.0) es) → IsPermutation es (entries (from_entries {R = bytes_cmp} es))
  moved [] apart =
      let none : entries (from_entries {R = bytes_cmp} []) ≡ [] = nil_from_length (entries (empty {X = X} {R = bytes_cmp})) (sym (len-entries (empty {X = X} {R = bytes_cmp})) ∙ len-empty bytes_cmp X) in
      subst (IsPermutation []) (sym none) (IsPermutation-refl [])
  moved (e ∷ es) apart =
      let rest = moved es (tail_apart e.0 (map (λ e. e.0) es) apart) in
      let made = from_entries {R = bytes_cmp} es in
      let new : find bytes_cmp e.0 (entries made) ≡ None = sym (get-entries made e.0) ∙ get-from_entries nat_list_cmp_total es e.0 ∙ new_key e.0 es apart in
      subst (IsPermutation (e ∷ es)) (sym (entries-insert nat_list_cmp_total made e.0 e.1))
      (IsPermutation-trans (e ∷ es) (e ∷ entries made) (put bytes_cmp e.0 e.1 (entries made)) (IsPermutation-cons e es (entries made) rest) (put_moves bytes_cmp e.0 e.1 (entries made) new))

  -- in the order of their keys
  abbrev pub in_order_of : (X → List ℕ) → List X → List X
  in_order_of key xs = values (from_entries {R = bytes_cmp} (map (λ x. (key x, x)) xs))

  keys_are : (key : X → List ℕ) (xs : List X) → map (λ e. e.0) (map {B = List ℕ × X} (λ x. (key x, x)) xs) ≡ map key xs
  keys_are key [] = refl
  keys_are key (x ∷ xs) = ap (λ w. key x ∷ w) (keys_are key xs)

  values_are : (key : X → List ℕ) (xs : List X) → map (λ e. e.1) (map {B = List ℕ × X} (λ x. (key x, x)) xs) ≡ xs
  values_are key [] = refl
  values_are key (x ∷ xs) = ap (λ w. x ∷ w) (values_are key xs)

  entries_moved : (key : X → List ℕ) (xs : List X) → AreApart (map key xs) → IsPermutation (map {B = List ℕ × X} (λ x. (key x, x)) xs) (entries (from_entries {R = bytes_cmp} (map {B = List ℕ × X} (λ x. (key x, x)) xs)))
  entries_moved key xs apart = moved (map (λ x. (key x, x)) xs) (subst AreApart (sym (keys_are key xs)) apart)

  pub order_moves : (key : X → List ℕ) (xs : List X) → AreApart (map key xs) → IsPermutation xs (in_order_of key xs)
  order_moves key xs apart =
      let pairs = map {B = List ℕ × X} (λ x. (key x, x)) xs in
      subst (λ ys. IsPermutation ys (in_order_of key xs)) (values_are key xs) (IsPermutation-map (λ e. e.1) pairs (entries (from_entries {R = bytes_cmp} pairs)) (entries_moved key xs apart))

module _ {X : Type 0} where
  all_above : (key : X → List ℕ) (k : List ℕ) (es : List (List ℕ × X)) → ((e : List ℕ × X) → Contains es e → e.0 ≡ key e.1) → below_all bytes_cmp k es ≡ true → AllByRecursion (λ y. bytes_cmp k (key y) ≡ Less) (map (λ e. e.1) es)
  all_above key k [] keyed below = tt
  all_above key k (e ∷ es) keyed below = (
    ap (bytes_cmp k) (sym (keyed e (first_there e es))) ∙ is_less (bytes_cmp k e.0) (first_true (is_lt (bytes_cmp k e.0)) (below_all bytes_cmp k es) below),
    all_above key k es (λ x has. keyed x (later_there e es x has)) (second_true (is_lt (bytes_cmp k e.0)) (below_all bytes_cmp k es) below),
  )

  rises : (key : X → List ℕ) (es : List (List ℕ × X)) → ((e : List ℕ × X) → Contains es e → e.0 ≡ key e.1) → is_sorted bytes_cmp es ≡ true → IsStrictlySortedBy (λ a b. bytes_cmp (key a) (key b)) (map (λ e. e.1) es)
  unfolding IsStrictlySortedBy
  rises key [] keyed sorted = tt
  rises key (e ∷ es) keyed sorted = (
    subst (λ k. AllByRecursion (λ y. bytes_cmp k (key y) ≡ Less) (map (λ e. e.1) es)) (keyed e (first_there e es))
        (all_above key e.0 es (λ x has. keyed x (later_there e es x has)) (first_true (below_all bytes_cmp e.0 es) (is_sorted bytes_cmp es) sorted)),
    rises key es (λ x has. keyed x (later_there e es x has)) (second_true (below_all bytes_cmp e.0 es) (is_sorted bytes_cmp es) sorted),
  )

  pub order_rises : (key : X → List ℕ) (xs : List X) → AreApart (map key xs) → IsStrictlySortedBy (λ a b. bytes_cmp (key a) (key b)) (in_order_of key xs)
  order_rises key xs apart =
      let pairs = map {B = List ℕ × X} (λ x. (key x, x)) xs in
      let made = from_entries {R = bytes_cmp} pairs in
      rises key (entries made) (λ e has.
      let back = Contains-permutation (entries made) pairs e (IsPermutation-sym pairs (entries made) (entries_moved key xs apart)) has in
      let from = comes_from (λ x. (key x, x)) xs e back in
      ap (λ (p : List ℕ × X). p.0) (sym from.2) ∙ ap (λ (p : List ℕ × X). key p.1) from.2)
      (so (is_sorted bytes_cmp (entries made)) (entries_sorted made))
