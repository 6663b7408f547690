-- Rows and nested entries of a region, in any order and in that of a catalogue.
use Rattle.std.proofs.Common.{◌≡◌, ℕ, List, length, sym, ap, subst, ◌∙◌}
use Rattle.std.specs.Prelude.{Contains}
use Rattle.std.specs.List.Sorted.{IsStrictlySortedBy}
use Rattle.std.proofs.lemmas.List.{length-map}
use Rattle.std.proofs.lemmas.List.Sorted.{IsPermutation-sym, Contains-permutation}
use Rattle.cv_base.specs.Path.{Path, text_of}
use Rattle.cv_tree.specs.Tree.{Nodes}
use Rattle.cv_rows.specs.Catalogue.{row_cmp, nested_cmp}
use Rattle.cv_rows.specs.Made.{AreApart, keys_of, texts_of, by_key, by_text}
use Rattle.cv_rows.specs.declared.row.Row.{Row}
use Rattle.cv_rows.specs.declared.nested.Nested.{Nested}
use Rattle.cv_rows.proofs.Lemmas.{row_total, nested_total}
use Rattle.cv_cut.specs.Cuts.{region}
use Rattle.cv_cut.specs.Catalogues.{rows_of, nested_of}
use Rattle.cv_cut.proofs.RegionRules.{StandsAtCut}
use Rattle.cv_cut.proofs.RegionLists.{row_list, nested_list, keys_apart, texts_apart, rows_of-by_key, nested_of-by_text}
use Rattle.cv_cut.proofs.CanonicalRules.{order_count}
use Rattle.cv_cut.proofs.Sorted.{order_moves, order_rises}
use Rattle.cv_cut.proofs.Sameness.{same_list}
use Rattle.cv_cut.specs.Region.{KeysApart, row_at, AreRowsOf, AreEntriesOf}
use Rattle.cv_cut.proofs.Told.{rows_are, entries_are}

rows_moved : (c : Path) (u : Nodes) (xs : List Row) → AreApart (keys_of xs) → AreRowsOf c u xs → AreRowsOf c u (by_key xs)
rows_moved c u xs apart are =
    let moved = order_moves (λ (r : Row). r.key.0) xs apart in
    record {
      each = λ r has. are.each r (Contains-permutation (by_key xs) xs r (IsPermutation-sym xs (by_key xs) moved) has);
      all = λ q n has. Contains-permutation xs (by_key xs) _ moved (are.all q n has);
    }

entries_moved : (c : Path) (u : Nodes) (file : Path → List ℕ) (xs : List Nested) → AreApart (texts_of xs) → AreEntriesOf c u file xs → AreEntriesOf c u file (by_text xs)
entries_moved c u file xs apart are =
    let moved = order_moves (λ (n : Nested). text_of n.path) xs apart in
    record {
      each = λ n has. are.each n (Contains-permutation (by_text xs) xs n (IsPermutation-sym xs (by_text xs) moved) has);
      all = λ d o. Contains-permutation xs (by_text xs) _ moved (are.all d o);
    }

pub rows_rise : (c : Path) (u : Nodes) → KeysApart c u → IsStrictlySortedBy row_cmp (rows_of c u)
rows_rise c u apart = subst (IsStrictlySortedBy row_cmp) (sym (rows_of-by_key c u)) (order_rises (λ (r : Row). r.key.0) (row_list c u) (keys_apart c u apart))

pub entries_rise : (c : Path) (u : Nodes) (file : Path → List ℕ) → StandsAtCut c u → IsStrictlySortedBy nested_cmp (nested_of c u file)
entries_rise c u file cut = subst (IsStrictlySortedBy nested_cmp) (sym (nested_of-by_text c u file)) (order_rises (λ (n : Nested). text_of n.path) (nested_list c u file) (texts_apart c u file cut))

-- two lists of all rows of a region, both in order, are one
pub same_rows : (c : Path) (u : Nodes) (xs ys : List Row) → IsStrictlySortedBy row_cmp xs → IsStrictlySortedBy row_cmp ys → AreRowsOf c u xs → AreRowsOf c u ys → xs ≡ ys
same_rows c u xs ys rises rose are were = same_list row_total xs ys rises rose
    (λ r has. let e = are.each r has in subst (Contains ys) (sym e.3) (were.all e.0 e.1 e.2))
    (λ r has. let e = were.each r has in subst (Contains xs) (sym e.3) (are.all e.0 e.1 e.2))

pub same_entries : (c : Path) (u : Nodes) (file : Path → List ℕ) (xs ys : List Nested) → IsStrictlySortedBy nested_cmp xs → IsStrictlySortedBy nested_cmp ys → AreEntriesOf c u file xs → AreEntriesOf c u file ys → xs ≡ ys
same_entries c u file xs ys rises rose are were = same_list nested_total xs ys rises rose
    (λ n has. let e = are.each n has in subst (Contains ys) (sym e.2) (were.all e.0 e.1))
    (λ n has. let e = were.each n has in subst (Contains xs) (sym e.2) (are.all e.0 e.1))

-- rows of a region in any order, none twice, are its rows in order
pub rows_in_order : (c : Path) (u : Nodes) (xs : List Row) → KeysApart c u → AreRowsOf c u xs → AreApart (keys_of xs) → by_key xs ≡ rows_of c u
rows_in_order c u xs keys are apart = same_rows c u (by_key xs) (rows_of c u) (order_rises (λ (r : Row). r.key.0) xs apart) (rows_rise c u keys) (rows_moved c u xs apart are) (rows_are c u keys)

pub entries_in_order : (c : Path) (u : Nodes) (file : Path → List ℕ) (xs : List Nested) → StandsAtCut c u → AreEntriesOf c u file xs → AreApart (texts_of xs) → by_text xs ≡ nested_of c u file
entries_in_order c u file xs cut are apart = same_entries c u file (by_text xs) (nested_of c u file) (order_rises (λ (n : Nested). text_of n.path) xs apart) (entries_rise c u file cut) (entries_moved c u file xs apart are) (entries_are c u file cut)

-- they are as many as the region has paths
pub rows_count : (c : Path) (u : Nodes) (xs : List Row) → KeysApart c u → AreRowsOf c u xs → AreApart (keys_of xs) → length xs ≡ length (region u)
rows_count c u xs keys are apart =
    sym (order_count xs apart) ∙ ap length (rows_in_order c u xs keys are apart) ∙ ap length (rows_of-by_key c u) ∙ order_count (row_list c u) (keys_apart c u keys)
    ∙ length-map (region u) (λ e. row_at c u e.0 e.1)
