-- Lists in which nothing stands twice.
use Rattle.std.proofs.Common.{◌≡◌, ℕ, ◌+◌, ◌<◌, Bool, true, false, not, ◌||◌, List, [], ◌∷◌, ◌++◌, length, get_or, take, Some, refl, sym, ap, subst, ◌∙◌, arith}
use Rattle.std.specs.Prelude.{bytes_eq}
use Rattle.std.specs.Cmp.{eq_by_cmp_equiv}
use Rattle.std.specs.Cmp.Lexicographic.{nat_list_cmp_total}
use Rattle.std.specs.List.{IsDistinct, list_any}
use Rattle.std.specs.List.Sorted.{IsPermutation}
use Rattle.std.proofs.lemmas.List.{take_more, get_or-take, length-take}
use Rattle.std.proofs.lemmas.List.Folds.{list_any_more, Any-from_list_any}
use Rattle.std.proofs.lemmas.Map.Keys as keys
use Rattle.std.proofs.lemmas.Map.Keys.{IsDistinct-from_apart, IsDistinct-IsPermutation, IsDistinct-push}
use Rattle.std.proofs.lemmas.Map.Text.{is_eq-slice_cmp}
use Rattle.std.proofs.lemmas.Option.{slice_get_within, get_or_from_slice_get, slice_get-get_or}
use Rattle.std.proofs.lemmas.Slice.Eq.{bytes_eq-Decides}
use Rattle.cv_base.specs.Path.{same_name}
use Rattle.cv_base.proofs.Laws.{same_name-symm, same_name_is, same_name_itself}
use Rattle.cv_rows.specs.Made.{IsTwice, AreApart}

-- no two are the same just where the test tells all apart
pub distinct_from_apart : (xs : List (List ℕ)) → AreApart xs → IsDistinct same_name xs
distinct_from_apart xs apart = IsDistinct-from_apart same_name xs (λ i j d less lt.
    elim (same_name (get_or xs i d) (get_or xs j d)) as (λ t. same_name (get_or xs i d) (get_or xs j d) ≡ t → t ≡ false) [
      | true ↦ λ e. absurd (apart (get_or xs i d) (record {
        first = i;
        second = j;
        order = less;
        one = slice_get-get_or xs i d (omega arith);
        other = slice_get-get_or xs j d lt ∙ ap (λ (x : List ℕ). Some x) (sym (same_name_is _ _ e));
      }))
      | false ↦ λ e. refl
    ] refl)

pub apart_from_distinct : (xs : List (List ℕ)) → IsDistinct same_name xs → AreApart xs
apart_from_distinct xs distinct x twice =
    let e = keys.apart_from_distinct same_name xs twice.first twice.second x distinct twice.order (slice_get_within xs twice.second x twice.other) in
    let here : same_name x x ≡ false = (λ i. same_name (sym (get_or_from_slice_get xs twice.first x x twice.one) i) (sym (get_or_from_slice_get xs twice.second x x twice.other) i)) ∙ e in
    let tied = same_name_itself x in
    cc

pub distinct_moved : (xs ys : List (List ℕ)) → IsPermutation xs ys → AreApart xs → IsDistinct same_name ys
distinct_moved xs ys moved apart = IsDistinct-IsPermutation same_name same_name-symm xs ys moved (distinct_from_apart xs apart)

-- ---- one key more

same_any : (y : List ℕ) (xs : List (List ℕ)) → list_any (same_name y) xs ≡ list_any (λ x. bytes_eq x y) xs
same_any y [] = refl
same_any y (x ∷ xs) = (λ i. (same_name-symm y x ∙ is_eq-slice_cmp x y) i || same_any y xs i)

pub apart_more : (xs : List (List ℕ)) (i : ℕ) (x : List ℕ) → i < length xs → get_or xs i [] ≡ x → AreApart (take i xs) → list_any (λ y. bytes_eq y x) (take i xs) ≡ false → AreApart (take (i + 1) xs)
apart_more xs i x lt is apart new =
    let longer = IsDistinct-push (eq_by_cmp_equiv nat_list_cmp_total) (take i xs) x (distinct_from_apart (take i xs) apart) (same_any x (take i xs) ∙ new) in
    let whole : take i xs ++ x ∷ [] ≡ take (i + 1) xs = sym (take_more xs i [] lt ∙ ap (λ (y : List ℕ). take i xs ++ y ∷ []) is) in
    apart_from_distinct (take (i + 1) xs) (subst (λ (ys : List (List ℕ)). IsDistinct same_name ys) whole longer)

pub known_more : (xs : List (List ℕ)) (i : ℕ) (x k : List ℕ) (was is : Bool) → i < length xs → get_or xs i [] ≡ x → was ≡ list_any (λ y. bytes_eq y k) (take i xs) → is ≡ (was || bytes_eq x k) → is ≡ list_any (λ y. bytes_eq y k) (take (i + 1) xs)
known_more xs i x k was is lt at_i known added =
    added ∙ (λ j. known j || bytes_eq (sym at_i j) k) ∙ sym (list_any_more (λ y. bytes_eq y k) xs i [] lt)

-- a key that stands before stands twice
pub twice_at : (xs : List (List ℕ)) (i : ℕ) (x : List ℕ) → i < length xs → get_or xs i [] ≡ x → list_any (λ y. bytes_eq y x) (take i xs) ≡ true → IsTwice xs x
twice_at xs i x lt is known =
    let any = Any-from_list_any (λ y. bytes_eq y x) (take i xs) known in
    let before : any.0 < i = omega (arith, any.2, length-take i xs) in
    let same : any.1 ≡ x = (bytes_eq-Decides any.1 x).0 any.4 in
    let here : get_or xs any.0 any.1 ≡ any.1 = sym (get_or-take i xs any.0 any.1 before) ∙ any.3 in
    record {
      first = any.0;
      second = i;
      order = before;
      one = slice_get-get_or xs any.0 any.1 (omega arith) ∙ ap (λ (y : List ℕ). Some y) (here ∙ same);
      other = slice_get-get_or xs i [] lt ∙ ap (λ (y : List ℕ). Some y) is;
    }

-- what the code tells of a key
pub told_false : (is_new was : Bool) → is_new ≡ not was → is_new ≡ true → was ≡ false
told_false is_new true e h = absurd cc
told_false is_new false e h = refl

pub told_true : (is_new was : Bool) → is_new ≡ not was → is_new ≡ false → was ≡ true
told_true is_new true e h = refl
told_true is_new false e h = absurd cc
