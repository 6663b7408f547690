-- The catalogues of a tree, one cut after another.
use Rattle.std.proofs.Common.{◌≡◌, ℕ, ◌+◌, ◌<◌, ◌≤◌, true, Some, List, [], ◌∷◌, ◌++◌, map, take, reverse, length, get_or, IsSome, refl, sym, ap, subst, ◌∙◌, inl, inr, Result, Ok, Err}
use Rattle.std.specs.Prelude.{IfOk}
use Rattle.std.specs.List.{All, filter}
use Rattle.std.specs.BTreeMap.{BTreeMap, Updates}
use Rattle.std.specs.BTreeMap as tree
use Rattle.std.proofs.lemmas.Bool.{cases_lt}
use Rattle.std.proofs.lemmas.List.{length-map, map-append, take_more}
use Rattle.std.proofs.lemmas.List.Elements.{All-more, All-contains, Contains-get_or}
use Rattle.sha1.specs.Sha1.{sha1}
use Rattle.cv_base.specs.Path.{Path, path_cmp}
use Rattle.cv_base.specs.ObjectId.{object_id}
use Rattle.cv_base.specs.declared.object.Object.{Object}
use Rattle.cv_base.specs.declared.id.Kind.TheVariants.{Catalogue}
use Rattle.cv_tree.specs.Tree.{Nodes, IsTree, at}
use Rattle.cv_tree.specs.declared.node.Node.{Node}
use Rattle.cv_rows.specs.Catalogue.{Contents, catalogue_bytes, file_of}
use Rattle.cv_rows.specs.Made.{AreParts, AreApart, IsTwice, PassesLimit, keys_of, in_order}
use Rattle.cv_rows.specs.declared.row.Row.{Row}
use Rattle.cv_rows.specs.declared.nested.Nested.{Nested}
use Rattle.cv_cut.specs.Cuts.{is_cut, cuts_of, region}
use Rattle.cv_cut.specs.Catalogues.{cat, entry_of, SharesKey, IsFull, Fits}
use Rattle.cv_cut.specs.Cut.{keys_at, row_in, nested_in, is_other, catalogue_object, region_at}
use Rattle.cv_cut.specs.CutInner.{HasMade, cuts_below}
use Rattle.cv_cut.proofs.RegionRules.{stands_at_cut}
use Rattle.cv_cut.proofs.RegionLists.{row_list, nested_list, keys_apart, keys_at_are, rows_tell_keys, texts_apart, are_parts}
use Rattle.cv_cut.proofs.CanonicalRules.{cat_in_order, order_length}
use Rattle.cv_cut.proofs.Collisions.{among_within, cut_among, one_apart}
use Rattle.cv_cut.specs.Piece.{cuts_within}
use Rattle.cv_cut.proofs.Members.{passes}
use Rattle.cv_cut.proofs.KindLaws.{rows_are}
use Rattle.cv_cut.proofs.CutOrder.{taken_before}
use Rattle.cv_cut.proofs.MadeEntries.{entries_are, entries_small, one_made}
use Rattle.cv_cut.specs.Region.{KeysApart, row_at}

-- ---- one catalogue

-- the rows and nested entries of the region of a cut
pub record MadeFrom (t : Nodes) (c : Path) (rows : List Row) (nested : List Nested) : Type 0 where
  pub rows_are_ : rows ≡ row_list c (at t c)
  pub nested_are : nested ≡ nested_list c (at t c) (λ d. cat t (c ++ d))
  pub small : All (λ n. n.size ≤ 16777216) nested

pub made_from : (t : Nodes) (c : Path) (es : List (Path × Node)) (rows : List Row) (nested : List Nested) → es ≡ region_at t c → rows ≡ map (row_in t c) es
    → nested ≡ map (λ e. nested_in t e.0) (filter (λ e. is_other t c e.0) es) → All (λ n. n.size ≤ 16777216) nested → MadeFrom t c rows nested
made_from t c es rows nested es-is rows-is nested-is small = record { rows_are_ = rows_are t c es rows es-is rows-is; nested_are = entries_are t c es nested es-is nested-is; small = small }

pub parts_of : (t : Nodes) (c : Path) (rows : List Row) (nested : List Nested) → IsTree t → is_cut t c ≡ true → MadeFrom t c rows nested → AreParts c rows nested
parts_of t c rows nested whole cut made =
    subst (λ (xs : List Row). AreParts c xs nested) (sym made.rows_are_) (subst (λ (ns : List Nested). AreParts c (row_list c (at t c)) ns) (sym made.nested_are)
    (are_parts c (at t c) (λ d. cat t (c ++ d)) (stands_at_cut t c whole cut) (entries_small t c nested made.nested_are made.small)))

-- the keys of its rows are those of its paths
pub made_apart : (t : Nodes) (c : Path) (rows : List Row) (nested : List Nested) → MadeFrom t c rows nested → AreApart (keys_of rows) → KeysApart c (at t c)
made_apart t c rows nested made apart = rows_tell_keys c (at t c) (subst (λ (xs : List Row). AreApart (keys_of xs)) made.rows_are_ apart)

pub not_apart : (t : Nodes) (c : Path) (es : List (Path × Node)) (rows : List Row) (nested : List Nested) (key : List ℕ) → es ≡ region_at t c → MadeFrom t c rows nested → AreApart (keys_at es) → IsTwice (keys_of rows) key → ⊥
not_apart t c es rows nested key es-is made apart twice =
    subst AreApart (ap keys_at es-is ∙ keys_at_are t c ∙ ap keys_of (sym made.rows_are_)) apart key twice

pub bytes_of : (t : Nodes) (c : Path) (rows : List Row) (nested : List Nested) (k : Contents) (bytes : List ℕ) → IsTree t → is_cut t c ≡ true → MadeFrom t c rows nested → k ≡ in_order c rows nested → bytes ≡ catalogue_bytes k → bytes ≡ cat t c
bytes_of t c rows nested k bytes whole cut made k-is is =
    is ∙ ap catalogue_bytes k-is
    ∙ ap (λ (xs : List Row). catalogue_bytes (in_order c xs nested)) made.rows_are_
    ∙ ap (λ (ns : List Nested). catalogue_bytes (in_order c (row_list c (at t c)) ns)) made.nested_are
    ∙ sym (cat_in_order t c whole cut)

-- the counts that are limited
record Counts (t : Nodes) (c : Path) (rows : List Row) (nested : List Nested) : Type 0 where
  count : length rows ≡ length (region (at t c))
  size : length (file_of rows nested) ≡ length (cat t c)

counts : (t : Nodes) (c : Path) (rows : List Row) (nested : List Nested) → IsTree t → is_cut t c ≡ true → KeysApart c (at t c) → MadeFrom t c rows nested → Counts t c rows nested
counts t c rows nested whole cut apart made =
    let u = at t c in
    let file = λ (d : Path). cat t (c ++ d) in
    record {
      count = ap length made.rows_are_ ∙ length-map (region u) (λ e. row_at c u e.0 e.1);
      size =
          ap (λ (xs : List Row). length (file_of xs nested)) made.rows_are_
          ∙ ap (λ (ns : List Nested). length (file_of (row_list c u) ns)) made.nested_are
          ∙ sym (order_length c (row_list c u) (nested_list c u file) (keys_apart c u apart) (texts_apart c u file (stands_at_cut t c whole cut)))
          ∙ ap length (sym (cat_in_order t c whole cut));
    }

pub full_cut : (t : Nodes) (c : Path) (rows : List Row) (nested : List Nested) → IsTree t → is_cut t c ≡ true → KeysApart c (at t c) → MadeFrom t c rows nested → PassesLimit rows nested → IsFull t c
full_cut t c rows nested whole cut apart made passes =
    let n = counts t c rows nested whole cut apart made in
    record {
      is_cut_ = cut;
      passes = elim passes [
        | inl many ↦ inl (subst (λ k. 50000 < k) n.count many)
        | inr long ↦ inr (subst (λ k. 16777216 < k) n.size long)
      ];
    }

pub not_full_cut : (t : Nodes) (c : Path) (rows : List Row) (nested : List Nested) → IsTree t → is_cut t c ≡ true → KeysApart c (at t c) → MadeFrom t c rows nested → (PassesLimit rows nested → ⊥) → IsFull t c → ⊥
not_full_cut t c rows nested whole cut apart made none full =
    let n = counts t c rows nested whole cut apart made in
    none (elim full.passes [
      | inl many ↦ inl (subst (λ k. 50000 < k) (sym n.count) many)
      | inr long ↦ inr (subst (λ k. 16777216 < k) (sym n.size) long)
    ])

-- ---- one cut after another

-- the first so many cuts of a list are made
pub record AreMade (t : Nodes) (cuts : List Path) (i : ℕ) (objects : List Object) (made : BTreeMap Path Nested) : Type 0 where
  pub objects_are : objects ≡ map (catalogue_object t) (take i cuts)
  pub apart : All (λ c. KeysApart c (at t c)) (take i cuts)
  pub fits : All (λ c. IsFull t c → ⊥) (take i cuts)
  pub made_ : HasMade t (take i cuts) made

-- the cut that was read
pub cut_there : (t : Nodes) (p : Path) (cuts : List Path) (i : ℕ) (c : Path) → cuts ≡ reverse (cuts_within t p) → i < length cuts → c ≡ get_or cuts i c → is_cut t c ≡ true
cut_there t p cuts i c is lt c-is = (among_within t p cuts c is (i, lt, sym c-is)).0

-- with it, all that its catalogue needs are made
pub below_made : (t : Nodes) (p : Path) (cuts : List Path) (i : ℕ) (c : Path) (made : BTreeMap Path Nested) → cuts ≡ reverse (cuts_within t p) → i < length cuts → c ≡ get_or cuts i c → HasMade t (take i cuts) made → HasMade t (cuts_below t c) made
below_made t p cuts i c made is lt c-is has = record {
  all = λ k d within.
      let x = get_or (cuts_below t c) k d in
      let other = passes (is_other t c) (cuts_of t) x (Contains-get_or (cuts_below t c) k d within) in
      All-contains (λ d. IsSome (tree.get path_cmp made d)) (take i cuts) x has.all (taken_before t p cuts i c x is (among_within t p cuts c is (i, lt, sym c-is)).1 lt c-is other.1);
  each = has.each;
  sizes = has.sizes;
}

within : (n : ℕ) → (16777216 < n → ⊥) → n ≤ 16777216
within n none = elim (cases_lt 16777216 n) [ inl lt ↦ absurd (none lt) | inr le ↦ le ]

pub next_made : (t : Nodes) (p : Path) (cuts : List Path) (i : ℕ) (c : Path) (bytes : List ℕ) (objects more : List Object) (old new : BTreeMap Path Nested) → AreMade t cuts i objects old → cuts ≡ reverse (cuts_within t p) → i < length cuts → c ≡ get_or cuts i c
    → bytes ≡ cat t c → KeysApart c (at t c) → (IsFull t c → ⊥) → Updates path_cmp old new c (Some (entry_of c bytes)) → more ≡ objects ++ record { id = object_id (sha1 bytes) Catalogue; bytes = bytes } ∷ [] → AreMade t cuts (i + 1) more new
next_made t p cuts i c bytes objects more old new are is lt c-is bytes-is apart fits u more-is =
    let cut = cut_there t p cuts i c is lt c-is in
    let small = within (length (cat t c)) (λ long. fits (record { is_cut_ = cut; passes = inr long })) in
    record {
      objects_are =
          more-is
          ∙ ap (λ (b : List ℕ). objects ++ record { id = object_id (sha1 b) Catalogue; bytes = b } ∷ []) bytes-is
          ∙ ap (λ (os : List Object). os ++ catalogue_object t c ∷ []) are.objects_are
          ∙ sym (map-append (catalogue_object t) (take i cuts) (c ∷ []))
          ∙ ap (map (catalogue_object t)) (ap (λ (x : Path). take i cuts ++ x ∷ []) c-is ∙ sym (take_more cuts i c lt));
      apart = one_apart t cuts i c are.apart lt c-is apart;
      fits = All-more (λ c. IsFull t c → ⊥) cuts i c lt are.fits (subst (λ (x : Path). IsFull t x → ⊥) c-is fits);
      made_ = one_made t cuts i old new c (entry_of c bytes) are.made_ lt c-is u (ap (entry_of c) bytes-is) (subst (λ (b : List ℕ). length b ≤ 16777216) (sym bytes-is) small);
    }

-- ---- the whole

pub tree_fits : (t : Nodes) (cuts : List Path) → IsTree t → cuts ≡ reverse (cuts_of t) → ((p q : Path) → SharesKey t p q → ⊥) → All (λ c. IsFull t c → ⊥) cuts → Fits t
tree_fits t cuts whole is apart fit = record {
  apart = apart;
  limits = λ c full. All-contains (λ c. IsFull t c → ⊥) cuts c fit (cut_among t cuts c whole is full.is_cut_) full;
}

-- ---- the root

-- it is the last cut, so that it is made
pub root_made : (t : Nodes) (cuts : List Path) (made : BTreeMap Path Nested) → IsTree t → cuts ≡ reverse (cuts_of t) → HasMade t cuts made → IsSome (tree.get path_cmp made [])
root_made t cuts made whole is has = All-contains (λ d. IsSome (tree.get path_cmp made d)) cuts [] has.all (cut_among t cuts [] whole is refl)

-- the entry at the root
pub root_there : {E : Type 0} (made : BTreeMap Path Nested) (p : Path) (n : Nested) (r : Result Nested E) → p ≡ [] → tree.get path_cmp made p ≡ Some n → IfOk r (λ m. m ≡ n) → IfOk r (λ m. tree.get path_cmp made [] ≡ Some m)
root_there made p n (Ok m) root found is = ap (tree.get path_cmp made) (sym root) ∙ found ∙ ap Some (sym is)
root_there made p n (Err e) root found is = tt
