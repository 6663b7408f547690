-- What the tests need to call what they try.
use Rattle.std.proofs.Common.{◌≡◌, ◌≢◌, Bool, true, false, not, List, [], ◌∷◌, ◌++◌, get_or, filter, Option, Some, None, is_some, MatchOption, Bor, refl, sym, ap, subst, ◌∙◌, inl, inr}
use Rattle.std.specs.Prelude.{Contains, bytes_eq}
use Rattle.std.specs.declared.cmp.Ordering.TheVariants.{Less}
use Rattle.std.specs.List.{AllByRecursion, list_any}
use Rattle.std.specs.List.Sorted.{IsPermutation, IsStrictlySortedBy}
use Rattle.std.proofs.lemmas.List.Elements.{Contains-append_left, Contains-append_right, Contains-append_cases, Contains-get_or}
use Rattle.std.proofs.lemmas.List.Folds.{Any-from_list_any, list_any_at, list_any_none}
use Rattle.std.proofs.lemmas.List.Sorted.{IsPermutation-map, IsPermutation-refl, IsPermutation-sym, IsPermutation-filter_both, Contains-permutation}
use Rattle.std.proofs.lemmas.Map.Keys.{IsDistinct-from_sorted}
use Rattle.std.proofs.lemmas.Slice.Eq.{bytes_eq-Decides}
use Rattle.cv_base.specs.BytesOrder.{bytes_cmp}
use Rattle.cv_base.specs.Path.{Path, text_of, covers}
use Rattle.cv_rows.specs.Catalogue.{Contents, IsCatalogue, row_cmp, nested_cmp}
use Rattle.cv_rows.specs.Made.{AreApart, AreParts, texts_of}
use Rattle.cv_rows.specs.Without.{IsWithout}
use Rattle.cv_rows.specs.declared.row.Row.{Row}
use Rattle.cv_rows.specs.declared.nested.Nested.{Nested}
use Rattle.cv_rows.proofs.Apart.{apart_from_distinct, distinct_moved}
use Rattle.cv_rows.proofs.Left.{kept, was_there}
use Rattle.cv_rows.proofs.PlaceLaws.{same_by_key}
use Rattle.cv_rows.proofs.Regions.{region_moved}

-- ---- rows that a catalogue lacks

abbrev pub lacks : List Row → Row → Bool
lacks rows r = not (list_any (λ x. bytes_eq x.key.0 r.key.0) rows)

found_any : (rows : List Row) (r : Row) (found : Option (Bor Row)) → MatchOption found ((x : Row) → Contains rows x → x.key.0 ≢ r.key.0) (λ x. Contains rows x.now × (x.now.key.0 ≡ r.key.0)) → is_some found ≡ list_any (λ x. bytes_eq x.key.0 r.key.0) rows
found_any rows r None none =
    sym (list_any_none (λ x. bytes_eq x.key.0 r.key.0) rows (λ k d lt.
    elim (bytes_eq (get_or rows k d).key.0 r.key.0) as (λ t. bytes_eq (get_or rows k d).key.0 r.key.0 ≡ t → t ≡ false) [
      | true ↦ λ e. absurd (none (get_or rows k d) (Contains-get_or rows k d lt) ((bytes_eq-Decides _ _).0 e))
      | false ↦ λ e. refl
    ] refl))
found_any rows r (Some x) (has, same) =
    sym (list_any_at (λ y. bytes_eq y.key.0 r.key.0) rows has.0 x.now has.1 ((bytes_eq-Decides _ _).1 (ap (λ (y : Row). y.key.0) has.2 ∙ same)))

twice_not : (b : Bool) → b ≡ not (not b)
twice_not true = refl
twice_not false = refl

pub lacks_is : (rows : List Row) (r : Row) (found : Option (Bor Row)) (is_none : Bool) → is_some found ≡ not is_none → MatchOption found ((x : Row) → Contains rows x → x.key.0 ≢ r.key.0) (λ x. Contains rows x.now × (x.now.key.0 ≡ r.key.0)) → is_none ≡ lacks rows r
lacks_is rows r found is_none says h = twice_not is_none ∙ ap not (sym says ∙ found_any rows r found h)

pub lacking_there : (rows left : List Row) → IsStrictlySortedBy row_cmp rows → ((r : Row) → Contains left r → Contains rows r) → (r : Row) → Contains rows r → Contains (left ++ filter (lacks left) rows) r
lacking_there rows left sorted within r has =
    elim (list_any (λ x. bytes_eq x.key.0 r.key.0) left) as (λ t. list_any (λ x. bytes_eq x.key.0 r.key.0) left ≡ t → Contains (left ++ filter (lacks left) rows) r) [
      | true ↦ λ e.
          let any = Any-from_list_any (λ x. bytes_eq x.key.0 r.key.0) left e in
          let there : Contains left any.1 = (any.0, any.2, any.3) in
          let same : any.1 ≡ r = same_by_key rows any.1 r sorted (within any.1 there) has ((bytes_eq-Decides any.1.key.0 r.key.0).0 any.4) in
          Contains-append_left left (filter (lacks left) rows) r (subst (λ (x : Row). Contains left x) same there)
      | false ↦ λ e. Contains-append_right left (filter (lacks left) rows) r (kept (lacks left) rows r has (ap not e))
    ] refl

pub lacking_back : (rows left : List Row) → ((r : Row) → Contains left r → Contains rows r) → (r : Row) → Contains (left ++ filter (lacks left) rows) r → Contains rows r
lacking_back rows left within r has = elim (Contains-append_cases left (filter (lacks left) rows) r has) [ inl there ↦ within r there | inr more ↦ was_there (lacks left) rows r more ]

-- ---- texts in order

all_texts : (n : Nested) (nested : List Nested) → AllByRecursion (λ m. nested_cmp n m ≡ Less) nested → AllByRecursion (λ t. bytes_cmp (text_of n.path) t ≡ Less) (texts_of nested)
all_texts n [] h = tt
all_texts n (m ∷ nested) h = (h.0, all_texts n nested h.1)

texts_sorted : (nested : List Nested) → IsStrictlySortedBy nested_cmp nested → IsStrictlySortedBy bytes_cmp (texts_of nested)
unfolding IsStrictlySortedBy
texts_sorted [] h = tt
texts_sorted (n ∷ nested) h = (all_texts n nested h.0, texts_sorted nested h.1)

texts_apart : (nested moved : List Nested) → IsStrictlySortedBy nested_cmp nested → IsPermutation nested moved → AreApart (texts_of moved)
texts_apart nested moved sorted is =
    apart_from_distinct (texts_of moved) (distinct_moved (texts_of nested) (texts_of moved) (IsPermutation-map (λ n. text_of n.path) nested moved is) (apart_from_distinct (texts_of nested) (IsDistinct-from_sorted bytes_cmp (texts_of nested) (texts_sorted nested sorted))))

-- ---- parts of a catalogue

-- the rows and nested entries of a catalogue in any order are its parts
pub parts_moved : (c : Contents) (at : Path) (rows moved : List Row) (nested nested_moved : List Nested) → IsCatalogue c → c ≡ record { at = at; rows = rows; nested = nested } → IsPermutation rows moved → IsPermutation nested nested_moved → AreParts at moved nested_moved
parts_moved c at rows moved nested nested_moved is same p q =
    let whole : IsCatalogue (record { at = at; rows = rows; nested = nested }) = subst (λ (x : Contents). IsCatalogue x) same is in
    record {
      region = λ _. region_moved at rows moved nested nested_moved (λ r has. Contains-permutation rows moved r p has) (λ r has. Contains-permutation moved rows r (IsPermutation-sym rows moved p) has) (λ n has. Contains-permutation nested nested_moved n q has) (λ n has. Contains-permutation nested_moved nested n (IsPermutation-sym nested nested_moved q) has) whole.region;
      apart = texts_apart nested nested_moved whole.nested_ordered q;
    }

-- rows that are left were there
pub left_there : (c left : Contents) (path at : Path) (rows : List Row) (nested : List Nested) → IsWithout c path left → c ≡ record { at = at; rows = rows; nested = nested } → (r : Row) → Contains left.rows r → Contains rows r
left_there c left path at rows nested w same r has =
    subst (λ (x : Contents). Contains x.rows r) same (was_there w.stays c.rows r (subst (λ (x : List Row). Contains x r) w.rows has))

-- what is left, and what isn't, are the parts of the whole
pub parts_again : (c left : Contents) (path at : Path) (rows more : List Row) (nested more_nested : List Nested) → IsCatalogue c → IsWithout c path left → c ≡ record { at = at; rows = rows; nested = nested } → ((r : Row) → Contains rows r → Contains (left.rows ++ more) r)
    → ((r : Row) → Contains (left.rows ++ more) r → Contains rows r) → more_nested ≡ filter (λ n. covers path n.path) nested → AreParts left.at (left.rows ++ more) (left.nested ++ more_nested)
parts_again c left path at rows more nested more_nested is w same there back rest =
    let whole : IsCatalogue (record { at = at; rows = rows; nested = nested }) = subst (λ (x : Contents). IsCatalogue x) same is in
    let stay : Nested → Bool = λ n. not (covers path n.path) in
    let go : Nested → Bool = λ n. covers path n.path in
    let both = filter stay nested ++ filter go nested in
    let moved : IsPermutation nested both = IsPermutation-filter_both stay go (λ n. twice_not (covers path n.path)) nested in
    let parts : AreParts at (left.rows ++ more) both = record {
      region = λ _. region_moved at rows (left.rows ++ more) nested both there back (λ n has. Contains-permutation nested both n moved has) (λ n has. Contains-permutation both nested n (IsPermutation-sym nested both moved) has) whole.region;
      apart = texts_apart nested both whole.nested_ordered moved;
    } in
    let left_is : left.nested ≡ filter stay nested = w.nested ∙ ap (λ (x : Contents). filter stay x.nested) same in
    subst (λ (p : Path). AreParts p (left.rows ++ more) (left.nested ++ more_nested)) (sym (w.at ∙ ap (λ (x : Contents). x.at) same))
    (subst (λ (n : List Nested). AreParts at (left.rows ++ more) n) (λ i. sym left_is i ++ sym rest i) parts)

-- the rows of a catalogue and some of them once more, with its nested entries, are its parts, but that keys are equal
pub parts_more : (c : Contents) (at : Path) (p : Row → Bool) (rows more all : List Row) (nested all_nested : List Nested) → IsCatalogue c → c ≡ record { at = at; rows = rows; nested = nested } → more ≡ filter p c.rows → all ≡ rows ++ more → all_nested ≡ nested → AreParts at all all_nested
parts_more c at p rows more all nested all_nested is same some all_is nested_is =
    let whole : IsCatalogue (record { at = at; rows = rows; nested = nested }) = subst (λ (x : Contents). IsCatalogue x) same is in
    let there : (r : Row) → Contains more r → Contains rows r = λ r has. subst (λ (x : Contents). Contains x.rows r) same (was_there p c.rows r (subst (λ (x : List Row). Contains x r) some has)) in
    let parts : AreParts at (rows ++ more) nested = record {
      region = λ _. region_moved at rows (rows ++ more) nested nested (λ r has. Contains-append_left rows more r has) (λ r has. elim (Contains-append_cases rows more r has) [ inl here ↦ here | inr again ↦ there r again ]) (λ n has. has) (λ n has. has) whole.region;
      apart = texts_apart nested nested whole.nested_ordered (IsPermutation-refl nested);
    } in
    subst (λ (x : List Row). AreParts at x all_nested) (sym all_is) (subst (λ (x : List Nested). AreParts at (rows ++ more) x) (sym nested_is) parts)
