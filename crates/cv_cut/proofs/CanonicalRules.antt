-- The canonical catalogue of a cut is a catalogue, where the tree fits.
use Rattle.std.proofs.Common.{◌≡◌, ℕ, ◌<◌, ◌≤◌, ◌^◌, Bool, true, false, ◌&&◌, Option, None, Some, List, [], ◌∷◌, ◌++◌, length, refl, sym, ap, subst, ◌∙◌, append_assoc, arith, IsSome, is_some, inl, inr}
use Rattle.std.specs.Ordering.{is_eq}
use Rattle.std.specs.Cmp.{tied_itself}
use Rattle.std.specs.List.Sorted.{IsPermutation}
use Rattle.std.specs.FinMap.{get}
use Rattle.std.proofs.lemmas.Bool.{cases_lt}
use Rattle.std.proofs.lemmas.List.{length-map}
use Rattle.std.proofs.lemmas.List.Sorted.{IsPermutation-sym, length_permutation, Contains-permutation}
use Rattle.cv_base.specs.Marker.{marker}
use Rattle.cv_base.specs.Path.{Path, same_path, text_of}
use Rattle.cv_base.proofs.Laws.{first_true, second_true, fields_length, path_total, same_path_is}
use Rattle.cv_tree.specs.Tree.{Nodes, IsTree, at, is_directory, is_file}
use Rattle.cv_tree.proofs.Laws.{get-at}
use Rattle.cv_tree.specs.declared.node.Node.{Node}
use Rattle.cv_rows.specs.Row.{row_bytes}
use Rattle.cv_rows.specs.Nested.{nested_bytes}
use Rattle.cv_rows.specs.Catalogue.{IsCatalogue, catalogue_bytes, file_of}
use Rattle.cv_rows.specs.Made.{AreApart, keys_of, texts_of, by_key, by_text, in_order}
use Rattle.cv_rows.specs.declared.row.Row.{Row}
use Rattle.cv_rows.specs.declared.nested.Nested.{Nested}
use Rattle.cv_rows.proofs.Lemmas.{file_len}
use Rattle.cv_cut.specs.Cuts.{is_cut, region}
use Rattle.cv_cut.specs.Catalogues.{nested_of, cat, SharesKey, Fits, contents_of}
use Rattle.cv_cut.proofs.Canonical.{cat_is}
use Rattle.cv_cut.proofs.RegionRules.{stands_at_cut, region_rules}
use Rattle.cv_cut.proofs.RegionLists.{row_list, nested_list, row_list_are, nested_list_are, keys_apart, texts_apart, rows_of-by_key, nested_of-by_text}
use Rattle.cv_cut.proofs.Sorted.{order_moves, order_rises}
use Rattle.cv_cut.specs.Region.{KeysApart, IsOther, FitsAtCut, row_at, AreRowsOf, AreEntriesOf}
use Rattle.cv_cut.proofs.Ends.{same_rest}

-- ---- lists in another order

rows_moved : (c : Path) (u : Nodes) (xs ys : List Row) → IsPermutation xs ys → AreRowsOf c u xs → AreRowsOf c u ys
rows_moved c u xs ys moved are = record {
  each = λ r has. are.each r (Contains-permutation ys xs r (IsPermutation-sym xs ys moved) has);
  all = λ q n has. Contains-permutation xs ys _ moved (are.all q n has);
}

entries_moved : (c : Path) (u : Nodes) (file : Path → List ℕ) (xs ys : List Nested) → IsPermutation xs ys → AreEntriesOf c u file xs → AreEntriesOf c u file ys
entries_moved c u file xs ys moved are = record {
  each = λ n has. are.each n (Contains-permutation ys xs n (IsPermutation-sym xs ys moved) has);
  all = λ d o. Contains-permutation xs ys _ moved (are.all d o);
}

-- in order they have as many bytes
pub order_length : (c : Path) (rows : List Row) (nested : List Nested) → AreApart (keys_of rows) → AreApart (texts_of nested) → length (catalogue_bytes (in_order c rows nested)) ≡ length (file_of rows nested)
order_length c rows nested keys texts =
    let r = fields_length row_bytes rows (by_key rows) (order_moves (λ r. r.key.0) rows keys) in
    let n = fields_length nested_bytes nested (by_text nested) (order_moves (λ n. text_of n.path) nested texts) in
    omega (arith, r, n, file_len rows nested, file_len (by_key rows) (by_text nested))

pub order_count : (rows : List Row) → AreApart (keys_of rows) → length (by_key rows) ≡ length rows
order_count rows keys = length_permutation rows (by_key rows) (order_moves (λ r. r.key.0) rows keys)

-- ---- keys

-- where no two paths share a key, those of a region have their own
pub region_apart : (t : Nodes) (c : Path) → is_cut t c ≡ true → ((p q : Path) → SharesKey t p q → ⊥) → KeysApart c (at t c)
region_apart t c cut apart = record {
  each = λ q r m n has had keys.
      elim (same_path q r) as (λ b. same_path q r ≡ b → q ≡ r) [
        | true ↦ λ same. same_path_is q r same
        | false ↦ λ other. absurd (apart (c ++ q) (c ++ r) (record {
          cut = c;
          is_cut_ = cut;
          first = (q, refl, ap is_some has.there, has.near);
          second = (r, refl, ap is_some had.there, had.near);
          differ = λ e. differs q r (same_rest c q r e) other;
          keys = keys;
        }))
      ] refl;
}
  where
    differs : (q r : Path) → q ≡ r → same_path q r ≡ false → ⊥
    differs q r same other =
        let yes : same_path q r ≡ true = subst (λ (x : Path). same_path q x ≡ true) same (ap is_eq (tied_itself path_total q)) in
        let no : true ≡ false = sym yes ∙ other in
        cc

-- ---- the catalogue

pub cut_some : (t : Nodes) (c : Path) → IsTree t → is_cut t c ≡ true → IsSome (get t c)
cut_some t [] tree cut = tree.part.root
cut_some t (a ∷ c) tree cut = some (get t (a ∷ c)) (is_file (get t ((a ∷ c) ++ marker ∷ []))) cut
  where
    some : (o : Option Node) (b : Bool) → (is_directory o && b) ≡ true → IsSome o
    some None b h = cc
    some (Some n) b h = refl

-- the bytes of the catalogue of a cut, by the lists of its region
pub cat_in_order : (t : Nodes) (c : Path) → IsTree t → is_cut t c ≡ true
    → cat t c ≡ catalogue_bytes (in_order c (row_list c (at t c)) (nested_list c (at t c) (λ d. cat t (c ++ d))))
cat_in_order t c tree cut =
    cat_is t c tree (cut_some t c tree cut)
    ∙ ap (λ (rows : List Row). catalogue_bytes (record { at = c; rows = rows; nested = nested_of c (at t c) (λ d. cat t (c ++ d)) })) (rows_of-by_key c (at t c))
    ∙ ap (λ (nested : List Nested). catalogue_bytes (record { at = c; rows = by_key (row_list c (at t c)); nested = nested })) (nested_of-by_text c (at t c) (λ d. cat t (c ++ d)))

-- another cut of a region is a cut of the tree
pub other_cut : (t : Nodes) (c d : Path) → IsOther (at t c) d → is_cut t (c ++ d) ≡ true
other_cut t c d o = named (c ++ d) (ap is_directory (sym (get-at t c d)) ∙ first_true _ _ o.marked) (ap is_file (sym (place d)) ∙ second_true (is_directory (get (at t c) d)) _ o.marked)
  where
    place : (d : Path) → get (at t c) (d ++ marker ∷ []) ≡ get t ((c ++ d) ++ marker ∷ [])
    place d = get-at t c (d ++ marker ∷ []) ∙ ap (get t) (sym (append_assoc c d (marker ∷ [])))

    named : (p : Path) → is_directory (get t p) ≡ true → is_file (get t (p ++ marker ∷ [])) ≡ true → is_cut t p ≡ true
    named [] directory file = refl
    named (a ∷ p) directory file = rw (directory, file) refl

not_full : (n m : ℕ) → (n < m → ⊥) → m ≤ n
not_full n m h = elim (cases_lt n m) [ inl lt ↦ absurd (h lt) | inr le ↦ le ]

-- a catalogue of a tree that fits is at most as long as it may be
pub cat_fits : (t : Nodes) (c : Path) → Fits t → is_cut t c ≡ true → length (cat t c) ≤ 16777216
cat_fits t c fits cut = not_full 16777216 (length (cat t c)) (λ lt. fits.limits c (record { is_cut_ = cut; passes = inr lt }))

-- a tree that fits does so at each cut
pub fits_at_cut : (t : Nodes) (c : Path) → is_cut t c ≡ true → Fits t → FitsAtCut t c
fits_at_cut t c cut fits = record {
  apart = region_apart t c cut fits.apart;
  limits = fits.limits c;
  sizes = λ d o. (let le = cat_fits t (c ++ d) fits (other_cut t c d o) in small (length (cat t (c ++ d))) le);
}
  where
    small : (n : ℕ) → n ≤ 16777216 → n < 2 ^ 64
    small n h = omega arith

pub canonical_at : (t : Nodes) (c : Path) → IsTree t → is_cut t c ≡ true → FitsAtCut t c → IsCatalogue (contents_of t c)
canonical_at t c tree cut fits =
    let u = at t c in
    let file = λ (d : Path). cat t (c ++ d) in
    let here = stands_at_cut t c tree cut in
    let keys = keys_apart c u fits.apart in
    let texts = texts_apart c u file here in
    let rows = row_list c u in
    let nested = nested_list c u file in
    let moved = order_moves (λ r. r.key.0) rows keys in
    let moved_nested = order_moves (λ n. text_of n.path) nested texts in
    let count : length (region u) ≤ 50000 = not_full 50000 (length (region u)) (λ lt. fits.limits (record { is_cut_ = cut; passes = inl lt })) in
    let bytes = not_full 16777216 (length (cat t c)) (λ lt. fits.limits (record { is_cut_ = cut; passes = inr lt })) in
    let made : IsCatalogue (in_order c rows nested) = record {
      region = region_rules c u file (by_key rows) (by_text nested) here fits.apart (rows_moved c u rows (by_key rows) moved (row_list_are c u)) (entries_moved c u file nested (by_text nested) moved_nested (nested_list_are c u file)) fits.sizes;
      ordered = order_rises (λ r. r.key.0) rows keys;
      nested_ordered = order_rises (λ n. text_of n.path) nested texts;
      count = omega (arith, count, order_count rows keys, length-map (region u) (λ e. row_at c u e.0 e.1));
      size = subst (λ (x : List ℕ). length x ≤ 16777216) (cat_in_order t c tree cut) bytes;
    } in
    subst IsCatalogue (λ i. record { at = c; rows = sym (rows_of-by_key c u) i; nested = sym (nested_of-by_text c u file) i }) made

pub canonical : (t : Nodes) (c : Path) → IsTree t → is_cut t c ≡ true → Fits t → IsCatalogue (contents_of t c)
canonical t c tree cut fits = canonical_at t c tree cut (fits_at_cut t c cut fits)
