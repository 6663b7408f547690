-- Lists in which nothing stands twice.
use Rattle.std.proofs.Common.{◌≡◌, ℕ, zero, suc, ◌<◌, Some, List, [], ◌∷◌, ◌++◌, map, get_or, refl, sym, ap, subst, ◌∙◌, arith, inl, inr, filter, Bool}
use Rattle.std.specs.Prelude.{Contains, slice_get}
use Rattle.std.specs.List.Sorted.{IsStrictlySortedBy}
use Rattle.std.proofs.lemmas.List.Elements.{Contains-append_cases}
use Rattle.std.proofs.lemmas.List.Kept.{IsStrictlySortedBy-filter}
use Rattle.std.proofs.lemmas.Map.Keys.{Less-from_sorted}
use Rattle.std.proofs.lemmas.Option.{slice_get_within, get_or_from_slice_get, slice_get-get_or}
use Rattle.cv_base.specs.BytesOrder.{bytes_cmp}
use Rattle.cv_base.proofs.Laws.{not_less, image_at, stands_there}
use Rattle.cv_rows.specs.Made.{AreApart}

-- what rises by a key has no key twice
pub sorted_apart : {X : Type 0} (key : X → List ℕ) (xs : List X) → IsStrictlySortedBy (λ a b. bytes_cmp (key a) (key b)) xs → AreApart (map key xs)
sorted_apart key xs sorted = λ x t.
    let a = image_at key xs t.first x t.one in
    let b = image_at key xs t.second x t.other in
    let less = Less-from_sorted (λ a b. bytes_cmp (key a) (key b)) xs t.first t.second a.0 sorted t.order (slice_get_within xs t.second b.0 b.1) in
    let first : get_or xs t.first a.0 ≡ a.0 = get_or_from_slice_get xs t.first a.0 a.0 a.1 in
    let second : get_or xs t.second a.0 ≡ b.0 = get_or_from_slice_get xs t.second b.0 a.0 b.1 in
    not_less (key (get_or xs t.first a.0)) (key (get_or xs t.second a.0)) less (ap key first ∙ a.2 ∙ sym b.2 ∙ ap key (sym second))

pub kept_apart : {X : Type 0} (key : X → List ℕ) (p : X → Bool) (xs : List X) → IsStrictlySortedBy (λ a b. bytes_cmp (key a) (key b)) xs → AreApart (map key (filter p xs))
kept_apart key p xs sorted = sorted_apart key (filter p xs) (IsStrictlySortedBy-filter (λ a b. bytes_cmp (key a) (key b)) p xs sorted)

pub tail_apart : (x : List ℕ) (xs : List (List ℕ)) → AreApart (x ∷ xs) → AreApart xs
tail_apart x xs apart = λ y t. apart y (record { first = suc t.first; second = suc t.second; order = (let lt = t.order in omega arith); one = t.one; other = t.other })

not_again : (x : List ℕ) (xs : List (List ℕ)) → AreApart (x ∷ xs) → Contains xs x → ⊥
not_again x xs apart has = apart x (record { first = 0; second = suc has.0; order = omega arith; one = refl; other = slice_get-get_or xs has.0 x has.1 ∙ ap (λ (y : List ℕ). Some y) has.2 })

-- a list that has nothing twice, before which one more is put
apart_more : (x : List ℕ) (xs : List (List ℕ)) → AreApart xs → (Contains xs x → ⊥) → AreApart (x ∷ xs)
apart_more x xs apart new = λ y t. go y t.first t.second t.order t.one t.other
  where
    go : (y : List ℕ) (i j : ℕ) → i < j → slice_get (x ∷ xs) i ≡ Some y → slice_get (x ∷ xs) j ≡ Some y → ⊥
    go y i zero lt one other = omega arith
    go y zero (suc j) lt one other = let same : x ≡ y = cc in new (subst (Contains xs) (sym same) (stands_there xs j y other))
    go y (suc i) (suc j) lt one other = apart y (record { first = i; second = j; order = omega arith; one = one; other = other })

-- two lists that have nothing twice and nothing in common
pub apart_append : (xs ys : List (List ℕ)) → AreApart xs → AreApart ys → ((x : List ℕ) → Contains xs x → Contains ys x → ⊥) → AreApart (xs ++ ys)
apart_append [] ys left right cross = right
apart_append (x ∷ xs) ys left right cross =
    apart_more x (xs ++ ys) (apart_append xs ys (tail_apart x xs left) right (λ z has had. cross z (suc has.0, (let k = has.1 in omega arith), has.2) had))
    (λ has. elim (Contains-append_cases xs ys x has) [
      | inl has ↦ not_again x xs left has
      | inr has ↦ cross x (0, omega arith, refl) has
    ])
