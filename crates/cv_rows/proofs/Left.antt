-- What is left of a catalogue without what a path covers is a catalogue.
use Rattle.std.proofs.Common.{◌≡◌, ℕ, zero, suc, ◌≤◌, Bool, true, false, not, cond, ◌&&◌, List, [], ◌∷◌, ◌++◌, length, get_or, filter, refl, sym, ap, subst, ◌∙◌, arith, length-append}
use Rattle.std.specs.Prelude.{Contains, bytes_eq}
use Rattle.std.specs.List.{All, flat_map}
use Rattle.std.specs.List.Sorted.{IsStrictlySortedBy}
use Rattle.std.proofs.lemmas.Bool.{not-true}
use Rattle.std.proofs.lemmas.List.Concat.{flat_map-cons}
use Rattle.std.proofs.lemmas.List.Elements.{All-from_recursion, recursion_from_All, All-filter, All-contains, All-contains_itself, filter_passes, Contains-append_right}
use Rattle.std.proofs.lemmas.List.Folds.{Any-from_list_any, list_any-from_Any}
use Rattle.std.proofs.lemmas.List.Kept.{IsStrictlySortedBy-filter}
use Rattle.std.proofs.lemmas.Slice.Eq.{bytes_eq-Decides}
use Rattle.cv_base.specs.Path.{Path, covers}
use Rattle.cv_base.specs.Marker.{marker, ends_in}
use Rattle.cv_base.proofs.Laws.{first_true, second_true, covers_below}
use Rattle.cv_rows.specs.Row.{IsRow, row_bytes, same_kind}
use Rattle.cv_rows.specs.Nested.{IsNested, nested_bytes}
use Rattle.cv_rows.specs.Places.{StandsAt, root, below, root_kind}
use Rattle.cv_rows.specs.Catalogue.{Contents, IsCatalogue, IsMarkedSo, IsMarkedWell, IsTransitionAt, IsListed, FitsAt, is_marker, has_marker, row_cmp, nested_cmp}
use Rattle.cv_rows.specs.Without.{IsWithout}
use Rattle.cv_rows.specs.declared.row.Row.{Row}
use Rattle.cv_rows.specs.declared.nested.Nested.{Nested}
use Rattle.cv_rows.specs.declared.row_kind.RowKind.{RowKind}
use Rattle.cv_rows.specs.declared.row_kind.RowKind.TheVariants.{Directory, NestedRoot, File}
use Rattle.cv_rows.proofs.Covers.{covers_last, ends_so}
use Rattle.cv_rows.proofs.PlaceLaws.{stands_contained, one_place, same_by_key}
use Rattle.cv_rows.proofs.Regions.{same_test, file_len}
use Rattle.cv_rows.proofs.RuleLaws.{contents}

-- ---- filters

module _ {X : Type 0} (p : X → Bool) where
  pub kept : (xs : List X) (x : X) → Contains xs x → p x ≡ true → Contains (filter p xs) x
  kept [] x has passes = absurd (omega arith)
  kept (y ∷ xs) x (zero, lt, is) passes = rw (ap p is ∙ passes) (0, omega arith, is)
  kept (y ∷ xs) x (suc k, lt, is) passes =
      let rest = kept xs x (k, omega arith, is) passes in
      elim (p y) as (λ t. Contains (cond t (y ∷ filter p xs) (filter p xs)) x) [ true ↦ Contains-append_right (y ∷ []) (filter p xs) x rest | false ↦ rest ]

  pub was_there : (xs : List X) (x : X) → Contains (filter p xs) x → Contains xs x
  was_there xs x has = All-contains (Contains xs) (filter p xs) x (All-filter p (Contains xs) xs (All-contains_itself xs)) has

  -- what holds of the elements that pass
  all_kept : (P Q : X → Type 0) (xs : List X) → All P xs → ((x : X) → Contains xs x → p x ≡ true → P x → Q x) → All Q (filter p xs)
  all_kept P Q xs all so = λ k d lt.
      so (get_or (filter p xs) k d) (All-filter p (Contains xs) xs (All-contains_itself xs) k d lt) (filter_passes p xs k d lt) (All-filter p P xs all k d lt)

  count_kept : (xs : List X) → length (filter p xs) ≤ length xs
  count_kept [] = omega arith
  count_kept (x ∷ xs) = let rest = count_kept xs in elim (p x) as (λ t. length (cond t (x ∷ filter p xs) (filter p xs)) ≤ length (x ∷ xs)) [ true ↦ omega arith | false ↦ omega arith ]

  len_kept : (f : X → List ℕ) (xs : List X) → length (flat_map f (filter p xs)) ≤ length (flat_map f xs)
  len_kept f [] = omega arith
  len_kept f (x ∷ xs) =
      let rest = len_kept f xs in
      let whole = ap length (flat_map-cons f x xs) ∙ length-append (f x) (flat_map f xs) in
      elim (p x) as (λ t. length (flat_map f (cond t (x ∷ filter p xs) (filter p xs))) ≤ length (flat_map f (x ∷ xs))) [
        | true ↦ omega (arith, rest, whole, ap length (flat_map-cons f x (filter p xs)), length-append (f x) (flat_map f (filter p xs)))
        | false ↦ omega (arith, rest, whole)
      ]

-- ---- markers

pub no_root : (at : Path) (kind : RowKind) → same_kind kind File ≡ true → kind ≡ root_kind at → ⊥
no_root [] kind is same = let wrong : same_kind Directory File ≡ true = subst (λ (k : RowKind). same_kind k File ≡ true) same is in cc
no_root (a ∷ at) kind is same = let wrong : same_kind NestedRoot File ≡ true = subst (λ (k : RowKind). same_kind k File ≡ true) same is in cc

-- a marker stands in the directory of its parent key
marker_place : {at : Path} {rows : List Row} {f : Row} {place : Path} (r : Row) (q : Path) → IsStrictlySortedBy row_cmp rows → StandsAt at rows f place → is_marker f ≡ true → f.parent.0 ≡ r.key.0 → StandsAt at rows r q → place ≡ q ++ marker ∷ []
marker_place {at} {f = f} r q sorted (root has is) marks parent s = absurd (no_root at f.kind (first_true (same_kind f.kind File) (bytes_eq f.name marker) marks) is.kind)
marker_place {at} {rows} {f} r q sorted (below {p = p} {q = above} has other t child) marks parent s =
    let same : p ≡ r = same_by_key rows p r sorted (stands_contained t) (stands_contained s) (sym child.parent ∙ parent) in
    let named : f.name ≡ marker = (bytes_eq-Decides f.name marker).0 (second_true (same_kind f.kind File) (bytes_eq f.name marker) marks) in
    (λ i. one_place sorted (subst (λ (x : Row). StandsAt at rows x above) same t) s i ++ named i ∷ [])

-- ---- what is left

module _ (c : Contents) (path : Path) (is : IsCatalogue c) (outside : covers path c.at ≡ false) (unmarked : ends_in marker path ≡ false) (stays : Row → Bool) (stays_is : (r : Row) (q : Path) → StandsAt c.at c.rows r q → stays r ≡ not (covers path q)) where
  abbrev left_rows : List Row
  left_rows = filter stays c.rows

  abbrev left_nested : List Nested
  left_nested = filter (λ n. not (covers path n.path)) c.nested

  -- a row that stands outside stays
  outside_stays : (r : Row) (q : Path) → StandsAt c.at c.rows r q → covers path q ≡ false → stays r ≡ true
  outside_stays r q s out = stays_is r q s ∙ ap not out

  -- one that stays stands outside
  stays_outside : (r : Row) (q : Path) → StandsAt c.at c.rows r q → stays r ≡ true → covers path q ≡ false
  stays_outside r q s here = not-true (covers path q) (sym (stays_is r q s) ∙ here)

  still_stands : {r : Row} {q : Path} → StandsAt c.at c.rows r q → covers path q ≡ false → StandsAt c.at left_rows r q
  still_stands {r} (root has top) out = root (kept stays c.rows r has (outside_stays r c.at (root has top) out)) top
  still_stands {r} (below {q = q} has other s child) out =
      let above : covers path q ≡ false =
      elim (covers path q) as (λ t. covers path q ≡ t → t ≡ false) [ true ↦ λ e. absurd (let wrong : true ≡ false = sym (covers_below path q (r.name ∷ []) e) ∙ out in cc) | false ↦ λ e. refl ] refl in
      below (kept stays c.rows r has (outside_stays r (q ++ r.name ∷ []) (below has other s child) out)) other (still_stands s above) child

  -- a marker of a row that stays stays
  marker_stays : (f r : Row) (q : Path) → Contains c.rows f → is_marker f ≡ true → f.parent.0 ≡ r.key.0 → StandsAt c.at c.rows r q → covers path q ≡ false → stays f ≡ true
  marker_stays f r q has marks parent s out =
      let at_f = is.region.placed has.0 f has.1 in
      let stands : StandsAt c.at c.rows f at_f.0 = subst (λ (x : Row). StandsAt c.at c.rows x at_f.0) has.2 at_f.1 in
      let place : at_f.0 ≡ q ++ marker ∷ [] = marker_place r q is.ordered stands marks parent s in
      outside_stays f at_f.0 stands (ap (covers path) place ∙ elim (covers path (q ++ marker ∷ [])) as (λ t. covers path (q ++ marker ∷ []) ≡ t → t ≡ false) [
        | true ↦ λ e. absurd (let wrong : true ≡ false = sym (ends_so q marker) ∙ sym (ap (ends_in marker) (covers_last path q marker out e)) ∙ unmarked in cc)
        | false ↦ λ e. refl
      ] refl)

  markers_left : (r : Row) (q : Path) → StandsAt c.at c.rows r q → covers path q ≡ false → has_marker c.rows r.key.0 ≡ has_marker left_rows r.key.0
  markers_left r q s out =
      let test = λ (f : Row). is_marker f && bytes_eq f.parent.0 r.key.0 in
      same_test (has_marker c.rows r.key.0) (has_marker left_rows r.key.0)
      (λ h.
      let any = Any-from_list_any test c.rows h in
      let f = any.1 in
      let has : Contains c.rows f = (any.0, any.2, any.3) in
      let stays_there = marker_stays f r q has (first_true (is_marker f) (bytes_eq f.parent.0 r.key.0) any.4) ((bytes_eq-Decides f.parent.0 r.key.0).0 (second_true (is_marker f) (bytes_eq f.parent.0 r.key.0) any.4)) s out in
      let there = kept stays c.rows f has stays_there in
      list_any-from_Any test left_rows (there.0, f, there.1, there.2, any.4))
      (λ h.
      let any = Any-from_list_any test left_rows h in
      let has = was_there stays c.rows any.1 (any.0, any.2, any.3) in
      list_any-from_Any test c.rows (has.0, any.1, has.1, has.2, any.4))

  left_is : IsCatalogue (record { at = c.at; rows = left_rows; nested = left_nested })
  left_is = record {
    region = record {
      place = is.region.place;
      spelled = recursion_from_All IsRow left_rows (All-filter stays IsRow c.rows (All-from_recursion IsRow c.rows is.region.spelled));
      nested_spelled = recursion_from_All IsNested left_nested (All-filter _ IsNested c.nested (All-from_recursion IsNested c.nested is.region.nested_spelled));
      root = (let top = is.region.root in (top.0, kept stays c.rows top.0 top.1 (outside_stays top.0 c.at (root top.1 top.2) outside), top.2));
      placed = all_kept stays (λ r. (q : Path) × StandsAt c.at c.rows r q × FitsAt c.at r q) (λ r. (q : Path) × StandsAt c.at left_rows r q × FitsAt c.at r q) c.rows is.region.placed (λ r has here h. (h.0, still_stands h.1 (stays_outside r h.0 h.1 here), h.2));
      marked = all_kept stays (λ r. (q : Path) × StandsAt c.at c.rows r q × FitsAt c.at r q) (IsMarkedWell c.at left_rows) c.rows is.region.placed (λ r has here h.
          subst (λ (b : Bool). IsMarkedSo c.at r b) (markers_left r h.0 h.1 (stays_outside r h.0 h.1 here)) (All-contains (IsMarkedWell c.at c.rows) c.rows r is.region.marked has));
      named = all_kept _ (λ n. IsTransitionAt c.at c.rows n.path) (λ n. IsTransitionAt c.at left_rows n.path) c.nested is.region.named (λ n has here h. record { row = h.row; kind = h.kind; stands = still_stands h.stands (not-true (covers path n.path) here) });
      listed = all_kept stays (IsListed c.at c.rows c.nested) (IsListed c.at left_rows left_nested) c.rows is.region.listed (λ r has here h kind.
          let n = h kind in
          let out = stays_outside r n.0.path n.2 here in
          (n.0, kept _ c.nested n.0 n.1 (ap not out), still_stands n.2 out));
    };
    ordered = IsStrictlySortedBy-filter row_cmp stays c.rows is.ordered;
    nested_ordered = IsStrictlySortedBy-filter nested_cmp _ c.nested is.nested_ordered;
    count = omega (arith, count_kept stays c.rows, is.count);
    size = omega (arith, is.size, file_len c.rows c.nested, file_len left_rows left_nested, len_kept stays row_bytes c.rows, len_kept (λ (n : Nested). not (covers path n.path)) nested_bytes c.nested);
  }

pub without_is : (c left : Contents) (path : Path) → IsCatalogue c → covers path c.at ≡ false → ends_in marker path ≡ false → IsWithout c path left → IsCatalogue left
without_is c left path is outside unmarked w =
    subst (λ (x : Contents). IsCatalogue x) (λ i. record { at = sym w.at i; rows = sym w.rows i; nested = sym w.nested i }) (left_is c path is outside unmarked w.stays w.stays_is)

-- what the code leaves
pub leaves : (c : Contents) (path : Path) (knows : List ℕ → Bool) (rows listed : List Row) (nested : List Nested) → listed ≡ c.rows → ((r : Row) (q : Path) → StandsAt c.at listed r q → knows r.key.0 ≡ covers path q)
    → rows ≡ filter (λ r. not (knows r.key.0)) c.rows → nested ≡ filter (λ n. not (covers path n.path)) c.nested → IsWithout c path (contents c.at rows nested)
leaves c path knows rows listed nested same known rows_are nested_are = record {
  at = refl;
  stays = λ r. not (knows r.key.0);
  stays_is = λ r q s. ap not (known r q (subst (λ (l : List Row). StandsAt c.at l r q) (sym same) s));
  rows = rows_are;
  nested = nested_are;
}
