-- Rows and nested entries in any order, put in order and checked.
use Rattle.std.proofs.Common.{◌≤◌, List, length, inl, inr, arith}
use Rattle.std.specs.List.{AllByRecursion}
use Rattle.std.specs.List.Sorted.{IsPermutation, IsStrictlySortedBy}
use Rattle.std.proofs.lemmas.Bool.{cases_lt}
use Rattle.std.proofs.lemmas.List.Elements.{All-from_recursion, recursion_from_All, All-contains, Contains-get_or}
use Rattle.std.proofs.lemmas.List.Sorted.{IsPermutation-sym, Contains-permutation, length_permutation}
use Rattle.cv_base.specs.Path.{Path}
use Rattle.cv_rows.specs.Row.{IsRow}
use Rattle.cv_rows.specs.Nested.{IsNested}
use Rattle.cv_rows.specs.Places.{root}
use Rattle.cv_rows.specs.Catalogue.{IsCatalogue, IsRegion, file_of, row_cmp, nested_cmp}
use Rattle.cv_rows.specs.Faults.{IsRuleFault}
use Rattle.cv_rows.specs.FaultsInner.{KeepsRules}
use Rattle.cv_rows.specs.Made.{PassesLimit}
use Rattle.cv_rows.specs.declared.row.Row.{Row}
use Rattle.cv_rows.specs.declared.nested.Nested.{Nested}
use Rattle.cv_rows.specs.declared.row_fault.RowFault.{RowFault}
use Rattle.cv_rows.proofs.NestedLaws.{fits_there}
use Rattle.cv_rows.proofs.RuleLaws.{contents, no_fault}
use Rattle.cv_rows.proofs.Regions.{catalogue_made, region_moved}
use Rattle.cv_rows.proofs.Sizes.{nested_le}

-- what is spelled is so in any order
pub spelled_moved : {X : Type 0} (P : X → Type 0) (xs ys : List X) → IsPermutation xs ys → AllByRecursion P xs → AllByRecursion P ys
spelled_moved P xs ys moved all =
    recursion_from_All P ys (λ k d lt. All-contains P xs _ (All-from_recursion P xs all) (Contains-permutation ys xs _ (IsPermutation-sym xs ys moved) (Contains-get_or ys k d lt)))

-- ---- counts

pub few : (rows rows' : List Row) (nested : List Nested) → (PassesLimit rows nested → ⊥) → IsPermutation rows rows' → length rows' ≤ 50000
few rows rows' nested fits moved = elim (cases_lt 50000 (length rows)) [ inl more ↦ absurd (fits (inl more)) | inr le ↦ omega (arith, length_permutation rows rows' moved) ]

pub few_entries : (rows : List Row) (nested nested' : List Nested) → (PassesLimit rows nested → ⊥) → IsPermutation nested nested' → length nested' ≤ 16777216
few_entries rows nested nested' fits moved = elim (cases_lt 16777216 (length (file_of rows nested))) [
  | inl more ↦ absurd (fits (inr more))
  | inr le ↦ omega (arith, nested_le rows nested, le, length_permutation nested nested' moved)
]

-- ---- rules

-- what keeps the rules has a region's
region_kept : (at : Path) (rows : List Row) (nested : List Nested) → AllByRecursion IsRow rows → AllByRecursion IsNested nested → KeepsRules at rows nested → IsRegion at rows nested
region_kept at rows nested spelled nested_spelled keeps =
    let top = keeps.stand.root in
    record {
      place = (fits_there at rows top.0 at keeps.ordered.0 keeps.fit (root top.1 top.2)).path;
      spelled = spelled;
      nested_spelled = nested_spelled;
      root = top;
      placed = keeps.fit;
      marked = keeps.marked;
      named = keeps.named;
      listed = keeps.listed;
    }

pub checked_is : (at : Path) (rows rows' : List Row) (nested nested' : List Nested) → AllByRecursion IsRow rows → AllByRecursion IsNested nested → (PassesLimit rows nested → ⊥) → IsPermutation rows rows' → IsPermutation nested nested'
    → KeepsRules at rows' nested' → IsCatalogue (contents at rows' nested')
checked_is at rows rows' nested nested' spelled nested_spelled fits moved nested_moved keeps =
    let kept = region_kept at rows' nested' (spelled_moved IsRow rows rows' moved spelled) (spelled_moved IsNested nested nested' nested_moved nested_spelled) keeps in
    let back = IsPermutation-sym rows rows' moved in
    let nested_back = IsPermutation-sym nested nested' nested_moved in
    let was = region_moved at rows' rows nested' nested (λ r has. Contains-permutation rows' rows r back has) (λ r has. Contains-permutation rows rows' r moved has) (λ n has. Contains-permutation nested' nested n nested_back has) (λ n has. Contains-permutation nested nested' n nested_moved has) kept in
    catalogue_made at rows rows' nested nested' was fits moved nested_moved keeps.ordered.0 keeps.ordered.1

-- those of a region break no rule, once they are in order
pub region_unbroken : (at : Path) (rows rows' : List Row) (nested nested' : List Nested) (fault : RowFault) → (PassesLimit rows nested → ⊥) → IsPermutation rows rows' → IsPermutation nested nested'
    → IsStrictlySortedBy row_cmp rows' → IsStrictlySortedBy nested_cmp nested' → IsRuleFault at rows' nested' fault → IsRegion at rows nested → ⊥
region_unbroken at rows rows' nested nested' fault fits moved nested_moved ordered nested_ordered broken region =
    no_fault (contents at rows' nested') fault (catalogue_made at rows rows' nested nested' region fits moved nested_moved ordered nested_ordered) broken
