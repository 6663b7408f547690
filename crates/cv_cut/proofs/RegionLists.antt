-- The rows and nested entries of a region, in the order of its paths.
use Rattle.std.proofs.Common.{◌≡◌, ◌≢◌, ℕ, ◌<◌, ◌^◌, Bool, true, false, cond, Option, Some, List, [], ◌∷◌, ◌++◌, map, length, refl, sym, ap, subst, ◌∙◌}
use Rattle.std.specs.Prelude.{Contains, T, slice_get, unwrap_or}
use Rattle.std.specs.List.{filter}
use Rattle.std.specs.FinMap.{get, entries, is_sorted, entries_sorted, from_entries, values}
use Rattle.std.specs.FinMap.Entries.{is_sorted-where_key}
use Rattle.std.proofs.lemmas.Option.{slice_get-get_or}
use Rattle.cv_base.specs.BytesOrder.{bytes_cmp}
use Rattle.cv_base.specs.Path.{Path, path_cmp, text_of, key_of}
use Rattle.cv_base.proofs.Laws.{text_of-injective, path_total, path_exact}
use Rattle.cv_tree.specs.Tree.{Nodes, at}
use Rattle.cv_tree.specs.declared.node.Node.{Node}
use Rattle.cv_rows.specs.Made.{AreParts, AreApart, keys_of, texts_of, by_key, by_text}
use Rattle.cv_rows.specs.declared.row.Row.{Row}
use Rattle.cv_rows.specs.declared.nested.Nested.{Nested}
use Rattle.cv_cut.specs.Cuts.{is_near, is_marked, is_inner, region, inner}
use Rattle.cv_cut.specs.Catalogues.{entry_of, rows_of, nested_of}
use Rattle.cv_cut.specs.Cut.{keys_at, region_at}
use Rattle.cv_cut.proofs.Members.{passes, passing, comes_from, goes_to}
use Rattle.cv_cut.proofs.Entries.{there_found, entry_has, has_entry}
use Rattle.cv_cut.proofs.Twice.{StandOnce, image_there, one_place, once_image, sorted_once}
use Rattle.cv_cut.proofs.RowFacts.{row_key}
use Rattle.cv_cut.proofs.RegionRules.{StandsAtCut, path_there, region_rules}
use Rattle.cv_cut.proofs.Bools.{so}
use Rattle.cv_cut.specs.Region.{row_at, IsNear, KeysApart, IsOther, AreRowsOf, AreEntriesOf}
use Rattle.cv_cut.proofs.Ends.{same_rest}

abbrev pub row_list : Path → Nodes → List Row
row_list c u = map (λ e. row_at c u e.0 e.1) (region u)

abbrev pub nested_list : Path → Nodes → (Path → List ℕ) → List Nested
nested_list c u file = map (λ d. entry_of (c ++ d) (file d)) (inner u)

-- ---- they are all, and no others

-- the region has its paths with their nodes
pub region_near : (u : Nodes) (q : Path) (n : Node) → Contains (region u) (q, n) → IsNear u q n
region_near u q n has =
    let p = passes (λ e. is_near u e.0) (entries u) (q, n) has in
    record { there = entry_has path_total u q n p.0; near = p.1 }

pub near_region : (u : Nodes) (q : Path) (n : Node) → IsNear u q n → Contains (region u) (q, n)
near_region u q n has = passing (λ e. is_near u e.0) (entries u) (q, n) (has_entry path_exact u q n has.there) has.near

pub row_list_are : (c : Path) (u : Nodes) → AreRowsOf c u (row_list c u)
row_list_are c u = record {
  each = λ r has. let e = comes_from (λ e. row_at c u e.0 e.1) (region u) r has in (e.0.0, e.0.1, region_near u e.0.0 e.0.1 e.1, sym e.2);
  all = λ q n has. goes_to (λ e. row_at c u e.0 e.1) (region u) (q, n) (near_region u q n has);
}

-- another cut is a marked directory that isn't the cut itself
pub inner_is : (u : Nodes) (d : Path) → is_inner u d ≡ true → (d ≢ []) × (is_marked u d ≡ true)
inner_is u [] h = cc
inner_is u (a ∷ d) h = (λ e. cc, h)

pub is_inner_ : (u : Nodes) (d : Path) → d ≢ [] → is_marked u d ≡ true → is_inner u d ≡ true
is_inner_ u [] some marked = absurd (some refl)
is_inner_ u (a ∷ d) some marked = marked

pub inner_other : (u : Nodes) (d : Path) → Contains (inner u) d → IsOther u d
inner_other u d has =
    let p = passes (is_inner u) (map (λ e. e.0) (region u)) d has in
    let e = comes_from (λ (e : Path × Node). e.0) (region u) d p.0 in
    let i = inner_is u d p.1 in
    record { node_ = e.0.1; there = subst (λ (x : Path). IsNear u x e.0.1) e.2 (region_near u e.0.0 e.0.1 e.1); below = i.0; marked = i.1 }

pub other_inner : (u : Nodes) (d : Path) → IsOther u d → Contains (inner u) d
other_inner u d o =
    passing (is_inner u) (map (λ e. e.0) (region u)) d (goes_to (λ (e : Path × Node). e.0) (region u) (d, o.node_) (near_region u d o.node_ o.there)) (is_inner_ u d o.below o.marked)

pub nested_list_are : (c : Path) (u : Nodes) (file : Path → List ℕ) → AreEntriesOf c u file (nested_list c u file)
nested_list_are c u file = record {
  each = λ n has. let e = comes_from (λ d. entry_of (c ++ d) (file d)) (inner u) n has in (e.0, inner_other u e.0 e.1, sym e.2);
  all = λ d o. goes_to (λ d. entry_of (c ++ d) (file d)) (inner u) d (other_inner u d o);
}

-- ---- nothing stands twice

pub region_rises : (u : Nodes) → is_sorted path_cmp (region u) ≡ true
region_rises u = so _ (is_sorted-where_key path_cmp (is_near u) (entries u) (entries_sorted u))

pub region_once : (u : Nodes) → StandOnce (region u)
region_once u = sorted_once path_cmp path_total (region u) (region_rises u)

-- the keys that pass a test are those of the entries whose keys do
pub filter_keys : (p : Path → Bool) (es : List (Path × Node)) → filter p (map (λ e. e.0) es) ≡ map (λ e. e.0) (filter (λ e. p e.0) es)
filter_keys p [] = refl
filter_keys p (e ∷ es) =
    elim (p e.0) as (λ b. cond b (e.0 ∷ filter p (map (λ e. e.0) es)) (filter p (map (λ e. e.0) es)) ≡ map (λ e. e.0) (cond b (e ∷ filter (λ e. p e.0) es) (filter (λ e. p e.0) es))) [
      | true ↦ ap (λ w. e.0 ∷ w) (filter_keys p es)
      | false ↦ filter_keys p es
    ]

pub keys_once : (es : List (Path × Node)) → is_sorted path_cmp es ≡ true → StandOnce (map (λ e. e.0) es)
keys_once es rises = once_image (λ e. e.0) es (sorted_once path_cmp path_total es rises) (λ a b has had same.
    let one = there_found path_total es a.0 a.1 rises has in
    let two = there_found path_total es b.0 b.1 rises had in
    let value : a.1 ≡ b.1 = cc in
    λ i. (same i, value i))

pub inner_once : (u : Nodes) → StandOnce (inner u)
inner_once u =
    let sorted : T (is_sorted path_cmp (filter (λ e. is_inner u e.0) (region u))) = is_sorted-where_key path_cmp (is_inner u) (region u) (is_sorted-where_key path_cmp (is_near u) (entries u) (entries_sorted u)) in
    subst StandOnce (sym (filter_keys (is_inner u) (region u))) (keys_once (filter (λ e. is_inner u e.0) (region u)) (so _ sorted))

pub apart : (xs : List (List ℕ)) → StandOnce xs → AreApart xs
apart xs once = λ x t. once.each t.first t.second x t.order t.one t.other

-- the keys of the rows are apart where those of the region are
pub keys_apart : (c : Path) (u : Nodes) → KeysApart c u → AreApart (keys_of (row_list c u))
keys_apart c u keys =
    let row = λ (e : Path × Node). row_at c u e.0 e.1 in
    let same = λ (a b : Path × Node) (has : Contains (region u) a) (had : Contains (region u) b) (k : (row a).key.0 ≡ (row b).key.0).
    keys.each a.0 b.0 a.1 b.1 (region_near u a.0 a.1 has) (region_near u b.0 b.1 had) (sym (row_key _ (c ++ a.0) a.1) ∙ k ∙ row_key _ (c ++ b.0) b.1) in
    let value = λ (a b : Path × Node) (has : Contains (region u) a) (had : Contains (region u) b) (p : a.0 ≡ b.0).
    (let one = (region_near u a.0 a.1 has).there in let two = (region_near u b.0 b.1 had).there in same_node (get u) a b p one two) in
    apart (keys_of (row_list c u)) (once_image (λ r. r.key.0) (row_list c u)
    (once_image row (region u) (region_once u) (λ a b has had is. value a b has had (same a b has had (ap (λ (r : Row). r.key.0) is))))
    (λ r s has had k.
    let a = comes_from row (region u) r has in
    let b = comes_from row (region u) s had in
    let pair = value a.0 b.0 a.1 b.1 (same a.0 b.0 a.1 b.1 (ap (λ (r : Row). r.key.0) a.2 ∙ k ∙ sym (ap (λ (r : Row). r.key.0) b.2))) in
    sym a.2 ∙ ap row pair ∙ b.2))
  where
    same_node : (f : Path → Option Node) (a b : Path × Node) → a.0 ≡ b.0 → f a.0 ≡ Some a.1 → f b.0 ≡ Some b.1 → a ≡ b
    same_node f a b p one two = let value : a.1 ≡ b.1 = cc in λ i. (p i, value i)

-- the texts of the nested entries are apart
pub texts_apart : (c : Path) (u : Nodes) (file : Path → List ℕ) → StandsAtCut c u → AreApart (texts_of (nested_list c u file))
texts_apart c u file cut =
    let entry = λ (d : Path). entry_of (c ++ d) (file d) in
    let same = λ (a b : Path) (has : Contains (inner u) a) (had : Contains (inner u) b) (t : text_of (c ++ a) ≡ text_of (c ++ b)).
    (let o = inner_other u a has in let p = inner_other u b had in
    same_rest c a b (text_of-injective (c ++ a) (c ++ b) (path_there c u cut a o.node_ o.there) (path_there c u cut b p.node_ p.there) t)) in
    apart (texts_of (nested_list c u file)) (once_image (λ n. text_of n.path) (nested_list c u file)
    (once_image entry (inner u) (inner_once u) (λ a b has had is. same a b has had (ap (λ (n : Nested). text_of n.path) is)))
    (λ m n has had t.
    let a = comes_from entry (inner u) m has in
    let b = comes_from entry (inner u) n had in
    let place = same a.0 b.0 a.1 b.1 (ap (λ (n : Nested). text_of n.path) a.2 ∙ t ∙ sym (ap (λ (n : Nested). text_of n.path) b.2)) in
    sym a.2 ∙ ap entry place ∙ b.2))

-- and the keys of the region where those of its rows are
pub rows_tell_keys : (c : Path) (u : Nodes) → AreApart (keys_of (row_list c u)) → KeysApart c u
rows_tell_keys c u apart = record {
  each = λ q r m n has had k.
      let a = near_region u q m has in
      let b = near_region u r n had in
      let same = one_place (keys_of (row_list c u)) (key_of (c ++ q)) a.0 b.0 apart (key_at q m a) (key_at r n b ∙ ap Some (sym k)) in
      let pair : Some (q, m) ≡ Some (r, n) = sym (entry_at q m a) ∙ ap (slice_get (region u)) same ∙ entry_at r n b in
      ap (λ (o : Option (Path × Node)). (unwrap_or o (q, m)).0) pair;
}
  where
    entry_at : (q : Path) (n : Node) → (has : Contains (region u) (q, n)) → slice_get (region u) has.0 ≡ Some (q, n)
    entry_at q n has = slice_get-get_or (region u) has.0 (q, n) has.1 ∙ ap Some has.2

    key_at : (q : Path) (n : Node) → (has : Contains (region u) (q, n)) → slice_get (keys_of (row_list c u)) has.0 ≡ Some (key_of (c ++ q))
    key_at q n has =
        let row = image_there (λ (e : Path × Node). row_at c u e.0 e.1) (region u) has.0 (q, n) (entry_at q n has) in
        image_there (λ (r : Row). r.key.0) (row_list c u) has.0 (row_at c u q n) row ∙ ap Some (row_key _ (c ++ q) n)

keys_behind : (c : Path) (u : Nodes) (es : List (Path × Node)) → map (λ e. key_of e.0) (map {B = Path × Node} (λ e. (c ++ e.0, e.1)) es) ≡ keys_of (map (λ e. row_at c u e.0 e.1) es)
keys_behind c u [] = refl
keys_behind c u (e ∷ es) = let k = sym (row_key _ (c ++ e.0) e.1) in let rest = keys_behind c u es in λ i. k i ∷ rest i

-- the keys of its paths are those of its rows
pub keys_at_are : (t : Nodes) (c : Path) → keys_at (region_at t c) ≡ keys_of (row_list c (at t c))
keys_at_are t c = keys_behind c (at t c) (region (at t c))

-- the rows and nested entries of a region are parts of a catalogue
pub are_parts : (c : Path) (u : Nodes) (file : Path → List ℕ) → StandsAtCut c u → ((d : Path) → IsOther u d → length (file d) < 2 ^ 64) → AreParts c (row_list c u) (nested_list c u file)
are_parts c u file cut sizes = record {
  region = λ apart. region_rules c u file (row_list c u) (nested_list c u file) cut (rows_tell_keys c u apart) (row_list_are c u) (nested_list_are c u file) sizes;
  apart = texts_apart c u file cut;
}

-- ---- the canonical order

pairs : (c : Path) (u : Nodes) (es : List (Path × Node)) → map {B = List ℕ × Row} (λ e. (key_of (c ++ e.0), row_at c u e.0 e.1)) es ≡ map {B = List ℕ × Row} (λ r. (r.key.0, r)) (map (λ e. row_at c u e.0 e.1) es)
pairs c u [] = refl
pairs c u (e ∷ es) = let k = sym (row_key _ (c ++ e.0) e.1) in let rest = pairs c u es in λ i. (k i, row_at c u e.0 e.1) ∷ rest i

pub rows_of-by_key : (c : Path) (u : Nodes) → rows_of c u ≡ by_key (row_list c u)
rows_of-by_key c u = ap (λ es. values (from_entries {R = bytes_cmp} es)) (pairs c u (region u))

entry_pairs : (c : Path) (file : Path → List ℕ) (ds : List Path) → map {B = List ℕ × Nested} (λ d. (text_of (c ++ d), entry_of (c ++ d) (file d))) ds ≡ map {B = List ℕ × Nested} (λ n. (text_of n.path, n)) (map (λ d. entry_of (c ++ d) (file d)) ds)
entry_pairs c file [] = refl
entry_pairs c file (d ∷ ds) = let rest = entry_pairs c file ds in λ i. (text_of (c ++ d), entry_of (c ++ d) (file d)) ∷ rest i

pub nested_of-by_text : (c : Path) (u : Nodes) (file : Path → List ℕ) → nested_of c u file ≡ by_text (nested_list c u file)
nested_of-by_text c u file = ap (λ es. values (from_entries {R = bytes_cmp} es)) (entry_pairs c file (inner u))
