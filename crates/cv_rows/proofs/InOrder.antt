-- A list in order of keys that differ is what a map of its elements by key has.
use Rattle.std.proofs.Common.{◌≡◌, ℕ, ◌+◌, ◌<◌, true, T, List, [], ◌∷◌, map, length, get_or, Option, Some, None, refl, sym, ap, subst, ◌∙◌, arith}
use Rattle.std.specs.Prelude.{slice_get, Contains}
use Rattle.std.specs.declared.cmp.Ordering.TheVariants.{Less}
use Rattle.std.specs.Cmp.{on_total, eq_by_cmp_equiv}
use Rattle.std.specs.Cmp.Lexicographic.{nat_list_cmp_total}
use Rattle.std.specs.FinMap.{from_entries, from_sorted, values, find, same_map, get-from_entries, get-from_sorted, entries-from_sorted}
use Rattle.std.specs.FinMap.Entries.{is_sorted, below_all}
use Rattle.std.specs.List.{AllByRecursion, IsDistinct}
use Rattle.std.specs.List.Sorted.{IsPermutation, IsSortedByKey, IsStrictlySortedBy}
use Rattle.std.specs.Map.{lookup, keys_of}
use Rattle.std.proofs.lemmas.List.{get_or-map, length-map}
use Rattle.std.proofs.lemmas.List.Sorted.{IsPermutation-map, IsPermutation-sym, Contains-permutation}
use Rattle.std.proofs.lemmas.Map.Entries.{place_from_lookup, lookup_from_place}
use Rattle.std.proofs.lemmas.Map.Keys as keys
use Rattle.std.proofs.lemmas.Option.{slice_get_within, get_or_from_slice_get, slice_get-get_or}
use Rattle.cv_base.specs.BytesOrder.{bytes_cmp}
use Rattle.cv_base.specs.Path.{same_name}
use Rattle.cv_base.proofs.Laws.{rising, name_exact, same_name_is}
use Rattle.cv_rows.specs.Made.{AreApart}
use Rattle.cv_rows.proofs.Sorting.{sorted_all}
use Rattle.cv_rows.proofs.Apart.{distinct_from_apart, distinct_moved}

-- ---- the same entries

module _ {X : Type 0} where
  abbrev pub by : (X → List ℕ) → X → List ℕ × X
  by key x = (key x, x)

  -- what one of two lists with the same entries finds, the other finds
  finds : (es fs : List (List ℕ × X)) (q : List ℕ) (x : X) → IsPermutation es fs → IsDistinct same_name (keys_of fs) → lookup (same_name q) es ≡ Some x → lookup (same_name q) fs ≡ Some x
  finds es fs q x moved distinct found =
      let place = place_from_lookup (same_name q) es x found in
      let has : Contains es (place.1, x) = (place.0, slice_get_within es place.0 (place.1, x) place.2, get_or_from_slice_get es place.0 (place.1, x) (place.1, x) place.2) in
      let had = Contains-permutation es fs (place.1, x) moved has in
      let there : slice_get fs had.0 ≡ Some (place.1, x) = slice_get-get_or fs had.0 (place.1, x) had.1 ∙ ap (λ (e : List ℕ × X). Some e) had.2 in
      subst (λ (k : List ℕ). lookup (same_name k) fs ≡ Some x) (sym (same_name_is q place.1 place.3)) (lookup_from_place (eq_by_cmp_equiv nat_list_cmp_total) fs had.0 place.1 x distinct there)

  same_option : (a b : Option X) → ((x : X) → a ≡ Some x → b ≡ Some x) → ((x : X) → b ≡ Some x → a ≡ Some x) → a ≡ b
  same_option None None left right = refl
  same_option None (Some x) left right = right x refl
  same_option (Some x) b left right = sym (left x refl)

  find_looks : (q : List ℕ) (es : List (List ℕ × X)) → find bytes_cmp q es ≡ lookup (same_name q) es
  find_looks q [] = refl
  find_looks q (e ∷ es) = rw (find_looks q es) refl

  below_test : (key : X → List ℕ) (x : X) (xs : List X) → AllByRecursion (λ y. bytes_cmp (key x) (key y) ≡ Less) xs → below_all bytes_cmp (key x) (map (by key) xs) ≡ true
  below_test key x [] h = refl
  below_test key x (y ∷ xs) h = rw (h.0, below_test key x xs h.1) refl

  sorted_test : (key : X → List ℕ) (xs : List X) → IsStrictlySortedBy (λ a b. bytes_cmp (key a) (key b)) xs → is_sorted bytes_cmp (map (by key) xs) ≡ true
  unfolding IsStrictlySortedBy
  sorted_test key [] h = refl
  sorted_test key (x ∷ xs) h = rw (below_test key x xs h.0, sorted_test key xs h.1) refl

  second_parts : (key : X → List ℕ) (xs : List X) → map (λ e. e.1) (map (by key) xs) ≡ xs
  second_parts key [] = refl
  second_parts key (x ∷ xs) = ap (λ (ys : List X). x ∷ ys) (second_parts key xs)

  first_parts : (key : X → List ℕ) (xs : List X) → keys_of (map (by key) xs) ≡ map key xs
  first_parts key [] = refl
  first_parts key (x ∷ xs) = ap (λ (ks : List (List ℕ)). key x ∷ ks) (first_parts key xs)

  -- a list in strictly ascending order of keys is what the map of its elements in any order has
  in_order_is : (key : X → List ℕ) (xs ys : List X) → IsPermutation xs ys → AreApart (map key xs) → IsStrictlySortedBy (λ a b. bytes_cmp (key a) (key b)) ys → ys ≡ values (from_entries {R = bytes_cmp} (map (by key) xs))
  in_order_is key xs ys moved apart sorted =
      let es = map (by key) xs in
      let fs = map (by key) ys in
      let entries_moved : IsPermutation es fs = IsPermutation-map (by key) xs ys moved in
      let here : IsDistinct same_name (keys_of es) = subst (λ (ks : List (List ℕ)). IsDistinct same_name ks) (sym (first_parts key xs)) (distinct_from_apart (map key xs) apart) in
      let there : IsDistinct same_name (keys_of fs) = subst (λ (ks : List (List ℕ)). IsDistinct same_name ks) (sym (first_parts key ys)) (distinct_moved (map key xs) (map key ys) (IsPermutation-map key xs ys moved) apart) in
      let test : T (is_sorted bytes_cmp fs) = subst T (sym (sorted_test key ys sorted)) tt in
      let same = same_map nat_list_cmp_total name_exact (from_sorted {R = bytes_cmp} fs) (from_entries {R = bytes_cmp} es) (λ q.
      get-from_sorted bytes_cmp fs q test ∙ find_looks q fs
      ∙ same_option (lookup (same_name q) fs) (lookup (same_name q) es) (λ x found. finds fs es q x (IsPermutation-sym es fs entries_moved) here found) (λ x found. finds es fs q x entries_moved there found)
      ∙ sym (get-from_entries nat_list_cmp_total es q ∙ find_looks q es)) in
      sym (second_parts key ys) ∙ ap (map (λ e. e.1)) (sym (entries-from_sorted bytes_cmp fs test)) ∙ ap values same

  -- a list with such keys that doesn't fall rises
  pub strict : (key : X → List ℕ) (xs ys : List X) → IsPermutation xs ys → AreApart (map key xs) → IsSortedByKey key bytes_cmp ys → IsStrictlySortedBy (λ a b. bytes_cmp (key a) (key b)) ys
  strict key xs ys moved apart sorted =
      let distinct = distinct_moved (map key xs) (map key ys) (IsPermutation-map key xs ys moved) apart in
      sorted_all (on_total key nat_list_cmp_total) ys (length ys) (omega arith) (λ k d lt.
      let below : k + 1 < length (map key ys) = omega (arith, length-map ys key) in
      rising (key (get_or ys k d)) (key (get_or ys (k + 1) d)) (sorted k d (omega arith) lt)
      ((λ i. same_name (sym (get_or-map key ys k d (key d) (omega arith)) i) (sym (get_or-map key ys (k + 1) d (key d) lt) i)) ∙ keys.apart_from_distinct same_name (map key ys) k (k + 1) (key d) distinct (omega arith) below))

  -- so a list of such keys that was sorted is what the map has
  pub sorted_is : (key : X → List ℕ) (xs ys : List X) → IsPermutation xs ys → AreApart (map key xs) → IsSortedByKey key bytes_cmp ys → ys ≡ values (from_entries {R = bytes_cmp} (map (by key) xs))
  sorted_is key xs ys moved apart sorted = in_order_is key xs ys moved apart (strict key xs ys moved apart sorted)
