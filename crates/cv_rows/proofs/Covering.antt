-- The keys of the rows that a path covers.
use Rattle.std.proofs.Common.{◌≡◌, ◌≢◌, ℕ, ◌+◌, ◌<◌, ◌≤◌, Bool, true, false, ◌&&◌, ◌||◌, List, length, get_or, Option, Some, None, refl, sym, ap, subst, ◌∙◌, arith, inl, inr}
use Rattle.std.specs.Prelude.{bytes_eq}
use Rattle.std.specs.List.Sorted.{IsStrictlySortedBy}
use Rattle.std.proofs.lemmas.Bool.{cases_lt}
use Rattle.std.proofs.lemmas.Slice.Eq.{bytes_eq-Decides}
use Rattle.cv_base.specs.Path.{Path, covers}
use Rattle.cv_rows.specs.Catalogue.{row_cmp}
use Rattle.cv_rows.specs.Faults.{AllFit}
use Rattle.cv_rows.specs.ParentsInner.{HasPath, is_covered}
use Rattle.cv_rows.specs.Places.{StandsAt}
use Rattle.cv_rows.specs.declared.row.Row.{Row}
use Rattle.cv_rows.proofs.NestedLaws.{fits_there}
use Rattle.cv_rows.proofs.PlaceLaws.{stands_contained, one_place}
use Rattle.cv_rows.proofs.Sorting.{same_index}

-- the keys among the first i rows are known
pub record AreKnown (at : Path) (rows : List Row) (path : Path) (i : ℕ) (knows : List ℕ → Bool) : Type 0 where
  pub below : (k : ℕ) (d : Row) (q : Path) → k < i → StandsAt at rows (get_or rows k d) q → knows (get_or rows k d).key.0 ≡ covers path q
  pub above : (k : ℕ) (d : Row) → i ≤ k → k < length rows → knows (get_or rows k d).key.0 ≡ false

-- what the code tells of a row
pub covered_is : (at : Path) (rows : List Row) (path : Path) (i : ℕ) (found : Option Path) → IsStrictlySortedBy row_cmp rows → AllFit at rows → HasPath at rows i found → (d : Row) (q : Path) → StandsAt at rows (get_or rows i d) q → is_covered path found ≡ covers path q
covered_is at rows path i None sorted fit has d q s = absurd (has d q s (fits_there at rows (get_or rows i d) q sorted fit s).path)
covered_is at rows path i (Some p) sorted fit has d q s = ap (covers path) (one_place sorted (has.1 d) s)

other_key : (rows : List Row) (i k : ℕ) (d : Row) → IsStrictlySortedBy row_cmp rows → i < length rows → k < length rows → k ≢ i → bytes_eq (get_or rows i d).key.0 (get_or rows k d).key.0 ≡ false
other_key rows i k d sorted li lk apart =
    elim (bytes_eq (get_or rows i d).key.0 (get_or rows k d).key.0) as (λ t. bytes_eq (get_or rows i d).key.0 (get_or rows k d).key.0 ≡ t → t ≡ false) [
      | true ↦ λ e. absurd (apart (sym (same_index rows i k d sorted li lk ((bytes_eq-Decides _ _).0 e))))
      | false ↦ λ e. refl
    ] refl

or_nothing : (a c b : Bool) → b ≡ false → (a || c && b) ≡ a
or_nothing true c b e = refl
or_nothing false true b e = e
or_nothing false false b e = refl

or_itself : (a c b : Bool) → a ≡ false → b ≡ true → (a || c && b) ≡ c
or_itself true c b e f = absurd cc
or_itself false true b e f = f
or_itself false false b e f = refl

-- one row more
pub known_more : (at : Path) (rows : List Row) (path : Path) (i : ℕ) (was knows : List ℕ → Bool) (covered : Bool) → IsStrictlySortedBy row_cmp rows → i < length rows → ((d : Row) (q : Path) → StandsAt at rows (get_or rows i d) q → covered ≡ covers path q)
    → ((d : Row) (key : List ℕ) → knows key ≡ (was key || covered && bytes_eq (get_or rows i d).key.0 key)) → AreKnown at rows path i was → AreKnown at rows path (i + 1) knows
known_more at rows path i was knows covered sorted lt covered_so more known = record {
  below = λ k d q less s. elim (cases_lt k i) [
    | inl before ↦ more d (get_or rows k d).key.0 ∙ or_nothing (was (get_or rows k d).key.0) covered _ (other_key rows i k d sorted lt (omega arith) (λ same. omega arith)) ∙ known.below k d q before s
    | inr ge ↦
        let same : i ≡ k = omega arith in
        let here : StandsAt at rows (get_or rows i d) q = subst (λ (j : ℕ). StandsAt at rows (get_or rows j d) q) (sym same) s in
        ap (λ (j : ℕ). knows (get_or rows j d).key.0) (sym same)
        ∙ more d (get_or rows i d).key.0 ∙ or_itself (was (get_or rows i d).key.0) covered _ (known.above i d (omega arith) lt) ((bytes_eq-Decides (get_or rows i d).key.0 (get_or rows i d).key.0).1 refl) ∙ covered_so d q here
  ];
  above = λ k d le within.
      more d (get_or rows k d).key.0 ∙ or_nothing (was (get_or rows k d).key.0) covered _ (other_key rows i k d sorted lt within (λ same. omega arith)) ∙ known.above k d (omega arith) within;
}

-- no row more, where it isn't covered
pub nothing_more : (a b : Bool) → a ≡ (a || false && b)
nothing_more true b = refl
nothing_more false b = refl

pub all_known : (at : Path) (rows : List Row) (path : Path) (i : ℕ) (knows : List ℕ → Bool) → length rows ≤ i → AreKnown at rows path i knows → (r : Row) (q : Path) → StandsAt at rows r q → knows r.key.0 ≡ covers path q
all_known at rows path i knows all known r q s =
    let has = stands_contained s in
    ap (λ (x : Row). knows x.key.0) (sym has.2) ∙ known.below has.0 r q (omega (arith, has.1)) (subst (λ (x : Row). StandsAt at rows x q) (sym has.2) s)
