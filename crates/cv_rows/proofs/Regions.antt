-- The rules of a catalogue don't speak of the order of its rows and nested entries.
use Rattle.std.proofs.Common.{◌≡◌, ◌+◌, Bool, true, false, List, get_or, refl, ◌++◌, length, codes, Result, Err, sym, subst, arith, inl, inr, length-append}
use Rattle.std.specs.Prelude.{Contains}
use Rattle.std.specs.Int.{w32, to_be_bytes}
use Rattle.std.specs.List.{All, flat_map, list_any}
use Rattle.std.specs.List.Sorted.{IsPermutation, IsStrictlySortedBy}
use Rattle.std.proofs.lemmas.Bool.{cases_lt}
use Rattle.std.proofs.lemmas.List.Elements.{All-from_recursion, recursion_from_All, All-contains, Contains-get_or}
use Rattle.std.proofs.lemmas.List.Folds.{Any-from_list_any, list_any-from_Any}
use Rattle.std.proofs.lemmas.List.Sorted.{IsPermutation-sym, Contains-permutation, length_permutation}
use Rattle.cv_base.specs.Path.{Path}
use Rattle.cv_base.proofs.Laws.{fields_length}
use Rattle.cv_rows.specs.Row.{IsRow, row_bytes}
use Rattle.cv_rows.specs.Nested.{IsNested, nested_bytes}
use Rattle.cv_rows.specs.Places.{StandsAt, root, below}
use Rattle.cv_rows.specs.Catalogue.{IsCatalogue, IsRegion, IsMarkedSo, IsMarkedWell, IsTransitionAt, IsListed, FitsAt, file_of, row_cmp, nested_cmp}
use Rattle.cv_rows.specs.Made.{AreApart, PassesLimit, keys_of}
use Rattle.cv_rows.specs.MadeInner.{Judges}
use Rattle.cv_rows.specs.declared.with_fault.WithFault.{WithFault}
use Rattle.cv_rows.specs.declared.with_fault.WithFault.TheVariants.{Full}
use Rattle.cv_rows.specs.declared.row.Row.{Row}
use Rattle.cv_rows.specs.declared.nested.Nested.{Nested}
use Rattle.cv_rows.proofs.RuleLaws.{contents}

pub same_test : (a b : Bool) → (a ≡ true → b ≡ true) → (b ≡ true → a ≡ true) → a ≡ b
same_test true b left right = sym (left refl)
same_test false true left right = right refl
same_test false false left right = refl

-- a row stands where it stood among other rows that are there still
pub stands_among : {at : Path} {rows more : List Row} {r : Row} {q : Path} → ((x : Row) → Contains rows x → Contains more x) → StandsAt at rows r q → StandsAt at more r q
stands_among {r = r} all (root has is) = root (all r has) is
stands_among {r = r} all (below has other s child) = below (all r has) other (stands_among all s) child

module _ {X : Type 0} (xs ys : List X) (there : (x : X) → Contains xs x → Contains ys x) (back : (x : X) → Contains ys x → Contains xs x) where
  all_moved : (P Q : X → Type 0) → ((x : X) → P x → Q x) → All P xs → All Q ys
  all_moved P Q weaker all = λ k d lt. weaker (get_or ys k d) (All-contains P xs (get_or ys k d) all (back (get_or ys k d) (Contains-get_or ys k d lt)))

  any_moved : (p : X → Bool) → list_any p xs ≡ list_any p ys
  any_moved p = same_test (list_any p xs) (list_any p ys)
      (λ h. let any = Any-from_list_any p xs h in let has = there any.1 (any.0, any.2, any.3) in list_any-from_Any p ys (has.0, any.1, has.1, has.2, any.4))
      (λ h. let any = Any-from_list_any p ys h in let has = back any.1 (any.0, any.2, any.3) in list_any-from_Any p xs (has.0, any.1, has.1, has.2, any.4))

-- the same rows and nested entries keep the rules in any order
pub region_moved : (at : Path) (rows rows' : List Row) (nested nested' : List Nested) → ((r : Row) → Contains rows r → Contains rows' r) → ((r : Row) → Contains rows' r → Contains rows r) → ((n : Nested) → Contains nested n → Contains nested' n) → ((n : Nested) → Contains nested' n → Contains nested n)
    → IsRegion at rows nested → IsRegion at rows' nested'
region_moved at rows rows' nested nested' there back nested_there nested_back is = record {
  place = is.place;
  spelled = recursion_from_All IsRow rows' (all_moved rows rows' there back IsRow IsRow (λ r h. h) (All-from_recursion IsRow rows is.spelled));
  nested_spelled = recursion_from_All IsNested nested' (all_moved nested nested' nested_there nested_back IsNested IsNested (λ n h. h) (All-from_recursion IsNested nested is.nested_spelled));
  root = (is.root.0, there is.root.0 is.root.1, is.root.2);
  placed = all_moved rows rows' there back (λ r. (q : Path) × StandsAt at rows r q × FitsAt at r q) (λ r. (q : Path) × StandsAt at rows' r q × FitsAt at r q) (λ r h. (h.0, stands_among there h.1, h.2)) is.placed;
  marked = all_moved rows rows' there back (IsMarkedWell at rows) (IsMarkedWell at rows') (λ r h. subst (λ (b : Bool). IsMarkedSo at r b) (any_moved rows rows' there back _) h) is.marked;
  named = all_moved nested nested' nested_there nested_back (λ n. IsTransitionAt at rows n.path) (λ n. IsTransitionAt at rows' n.path) (λ n h. record { row = h.row; kind = h.kind; stands = stands_among there h.stands }) is.named;
  listed = all_moved rows rows' there back (IsListed at rows nested) (IsListed at rows' nested') (λ r h kind. let n = h kind in (n.0, nested_there n.0 n.1, stands_among there n.2)) is.listed;
}

-- ---- what a judge says

pub judges_as : (rows r : List Row) (nested n : List Nested) (said : Result Unit WithFault) → r ≡ rows → n ≡ nested → Judges r n said → Judges rows nested said
judges_as rows r nested n said rows-is nested-is h =
    subst (λ (x : List Row). Judges x nested said) rows-is (subst (λ (x : List Nested). Judges r x said) nested-is h)

pub full_is : (rows : List Row) (nested : List Nested) (fault : WithFault) → fault ≡ Full → Judges rows nested (Err fault) → AreApart (keys_of rows) × PassesLimit rows nested
full_is rows nested fault is h = subst (λ (f : WithFault). Judges rows nested (Err f)) is h

-- ---- catalogues

-- the bytes of a row file
pub file_len : (rows : List Row) (nested : List Nested) → length (file_of rows nested) ≡ 12 + length (flat_map row_bytes rows) + length (flat_map nested_bytes nested)
file_len rows nested =
    omega (arith, length-append (codes "CVR1" ++ to_be_bytes w32 (length rows) ++ to_be_bytes w32 (length nested) ++ flat_map row_bytes rows) (flat_map nested_bytes nested), length-append (codes "CVR1" ++ to_be_bytes w32 (length rows) ++ to_be_bytes w32 (length nested)) (flat_map row_bytes rows))

-- in order, and within the limits, they are a catalogue's
pub catalogue_made : (at : Path) (rows rows' : List Row) (nested nested' : List Nested) → IsRegion at rows nested → (PassesLimit rows nested → ⊥) → IsPermutation rows rows' → IsPermutation nested nested' → IsStrictlySortedBy row_cmp rows' → IsStrictlySortedBy nested_cmp nested'
    → IsCatalogue (contents at rows' nested')
catalogue_made at rows rows' nested nested' region fits moved nested_moved ordered nested_ordered = record {
  region = region_moved at rows rows' nested nested' (λ r has. Contains-permutation rows rows' r moved has) (λ r has. Contains-permutation rows' rows r (IsPermutation-sym rows rows' moved) has) (λ n has. Contains-permutation nested nested' n nested_moved has) (λ n has. Contains-permutation nested' nested n (IsPermutation-sym nested nested' nested_moved) has) region;
  ordered = ordered;
  nested_ordered = nested_ordered;
  count = elim (cases_lt 50000 (length rows)) [ inl more ↦ absurd (fits (inl more)) | inr le ↦ omega (arith, length_permutation rows rows' moved) ];
  size = elim (cases_lt 16777216 (length (file_of rows nested))) [
    | inl more ↦ absurd (fits (inr more))
    | inr le ↦ omega (arith, file_len rows nested, file_len rows' nested', fields_length row_bytes rows rows' moved, fields_length nested_bytes nested nested' nested_moved)
  ];
}
