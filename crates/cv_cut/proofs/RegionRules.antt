-- The rows and the nested entries of a region, in any order, keep the rules of a catalogue.
use Rattle.std.proofs.Common.{◌≡◌, ◌≢◌, ℕ, ◌<◌, ◌^◌, true, false, ◌&&◌, Option, None, Some, List, [], ◌∷◌, ◌++◌, length, refl, sym, ap, subst, ◌∙◌, append-nil, IsSome, is_some}
use Rattle.std.specs.Prelude.{Contains, bytes_eq}
use Rattle.std.specs.FinMap.{get}
use Rattle.std.proofs.lemmas.Bool.{false_from_ne_true, and_from}
use Rattle.std.proofs.lemmas.List.Elements.{recursion_from_All}
use Rattle.std.proofs.lemmas.List.Folds.{Any-from_list_any, list_any-from_Any}
use Rattle.std.proofs.lemmas.Slice.Eq.{bytes_eq-Decides}
use Rattle.cv_base.specs.Marker.{marker}
use Rattle.cv_base.specs.Path.{Path, IsPath, key_of, last_name_of}
use Rattle.cv_base.proofs.Laws.{digest_sha1, first_true, second_true, each_all}
use Rattle.cv_tree.specs.Tree.{Nodes, is_directory, IsPart, IsTree, at, is_file}
use Rattle.cv_tree.specs.declared.node.Node.{Node}
use Rattle.cv_tree.proofs.Laws.{get-at, IsPart-at, some_directory}
use Rattle.cv_rows.specs.Row.{IsRow, same_kind}
use Rattle.cv_rows.specs.Nested.{IsNested}
use Rattle.cv_rows.specs.Places.{IsRoot, StandsAt}
use Rattle.cv_rows.specs.Catalogue.{FitsAt, IsMarkedWell, IsTransitionAt, IsListed, IsRegion, is_marker, has_marker}
use Rattle.cv_rows.specs.declared.row.Row.{Row}
use Rattle.cv_rows.specs.declared.nested.Nested.{Nested}
use Rattle.cv_rows.specs.declared.row_kind.RowKind.{RowKind}
use Rattle.cv_rows.specs.declared.row_kind.RowKind.TheVariants.{Directory, Transition, NestedRoot, File, Link}
use Rattle.cv_cut.specs.Cuts.{is_marked, is_cut}
use Rattle.cv_cut.specs.Catalogues.{entry_of, kind_of}
use Rattle.cv_cut.proofs.Ends.{HasLast, some_last}
use Rattle.cv_cut.proofs.RowFacts.{row_key, row_kind, row_name, parent_at, name_at, root_row, transition_marked, marked_transition, directory_unmarked, file_node, node_file, nested_root_at}
use Rattle.cv_cut.proofs.RowRules.{row_keeps, suits}
use Rattle.cv_cut.proofs.Regions.{above, root_node, only_root, stands}
use Rattle.cv_cut.specs.Region.{row_at, IsNear, KeysApart, IsOther, AreRowsOf, AreEntriesOf}

-- ---- the place

-- u is what stands at a cut c of a tree
pub record StandsAtCut (c : Path) (u : Nodes) : Type 0 where
  pub part : IsPart u
  pub directory : is_directory (get u []) ≡ true
  pub paths : (q : Path) → IsSome (get u q) → IsPath (c ++ q)
  pub marked : c ≢ [] → is_file (get u (marker ∷ [])) ≡ true

directory_at : (t : Nodes) (c : Path) → IsTree t → is_cut t c ≡ true → is_directory (get t c) ≡ true
directory_at t [] tree cut = tree.root
directory_at t (a ∷ c) tree cut = first_true (is_directory (get t (a ∷ c))) (is_file (get t ((a ∷ c) ++ marker ∷ []))) cut

marked_at : (t : Nodes) (c : Path) → is_cut t c ≡ true → c ≢ [] → is_file (get t (c ++ marker ∷ [])) ≡ true
marked_at t [] cut some = absurd (some refl)
marked_at t (a ∷ c) cut some = second_true (is_directory (get t (a ∷ c))) (is_file (get t ((a ∷ c) ++ marker ∷ []))) cut

pub stands_at_cut : (t : Nodes) (c : Path) → IsTree t → is_cut t c ≡ true → StandsAtCut c (at t c)
stands_at_cut t c tree cut =
    let directory = directory_at t c tree cut in
    record {
      part = IsPart-at t c tree.part (some_directory (get t c) directory);
      directory = ap is_directory (get-at t c [] ∙ ap (get t) (append-nil c)) ∙ directory;
      paths = λ q some. tree.part.paths (c ++ q) (ap is_some (sym (get-at t c q)) ∙ some);
      marked = λ some. ap is_file (get-at t c (marker ∷ [])) ∙ marked_at t c cut some;
    }

-- ---- the rules of rows

node_there : (u : Nodes) (q : Path) (n : Node) → IsNear u q n → IsSome (get u q)
node_there u q n has = ap is_some has.there

pub file_kind : (kind : RowKind) → same_kind kind File ≡ true → kind ≡ File
file_kind Directory h = absurd cc
file_kind Transition h = absurd cc
file_kind NestedRoot h = absurd cc
file_kind File h = refl
file_kind Link h = absurd cc

-- a path of the region is a path of the repository
pub path_there : (c : Path) (u : Nodes) → StandsAtCut c u → (q : Path) (n : Node) → IsNear u q n → IsPath (c ++ q)
path_there c u cut q n has = cut.paths q (node_there u q n has)

pub keeps : (c : Path) (u : Nodes) (rows : List Row) → StandsAtCut c u → AreRowsOf c u rows → (r : Row) → Contains rows r → IsRow r
keeps c u rows cut are r has =
    let e = are.each r has in
    let directory : e.0 ≡ [] → is_directory (Some e.1) ≡ true = λ none. ap is_directory (sym e.2.there ∙ ap (get u) none) ∙ cut.directory in
    subst IsRow (sym e.3) (row_keeps _ (c ++ e.0) e.1 (path_there c u cut e.0 e.1 e.2) (cut.part.nodes e.0 e.1 e.2.there) (suits c u e.0 e.1 directory))

-- the row of a path fits it
fits : (c : Path) (u : Nodes) → StandsAtCut c u → KeysApart c u → (q : Path) (n : Node) → IsNear u q n → FitsAt c (row_at c u q n) (c ++ q)
fits c u cut apart q n has = record {
  key = row_key _ (c ++ q) n;
  path = path_there c u cut q n has;
  name = λ is. row_name _ (c ++ q) n ∙ ap last_name_of (ap (λ (x : Path). c ++ x) (only_root c u cut.part apart q n has is) ∙ append-nil c);
}

-- ---- markers

-- the file of a row with the marker's name stands in the directory whose key the row has above it
marker_at : (c : Path) (u : Nodes) → StandsAtCut c u → KeysApart c u → (q p : Path) (n m : Node) (r : Row) → IsNear u q n → IsNear u p m → HasLast p → r ≡ row_at c u p m
    → is_file (Some m) ≡ true → bytes_eq r.name marker ≡ true → bytes_eq r.parent.0 (key_of (c ++ q)) ≡ true → is_file (get u (q ++ marker ∷ [])) ≡ true
marker_at c u cut apart q p n m r has near l row-is file named keyed =
    let has_l : IsNear u (l.front ++ l.name ∷ []) m = subst (λ (x : Path). IsNear u x m) l.is near in
    let row_l : r ≡ row_at c u (l.front ++ l.name ∷ []) m = row-is ∙ ap (λ (x : Path). row_at c u x m) l.is in
    let name : l.name ≡ marker = sym (name_at c u l.front l.name m) ∙ ap (λ (x : Row). x.name) (sym row_l) ∙ (bytes_eq-Decides r.name marker).0 named in
    let key : key_of (c ++ l.front) ≡ key_of (c ++ q) = sym (parent_at c u l.front l.name m) ∙ ap (λ (x : Row). x.parent.0) (sym row_l) ∙ (bytes_eq-Decides r.parent.0 (key_of (c ++ q))).0 keyed in
    let a = above u cut.part l.front l.name m has_l in
    let same : l.front ≡ q = apart.each l.front q a.node_ n a.there has key in
    let place : l.front ++ l.name ∷ [] ≡ q ++ marker ∷ [] = ap (λ (x : Path). x ++ l.name ∷ []) same ∙ ap (λ (x : List ℕ). q ++ x ∷ []) name in
    ap is_file (ap (get u) (sym place) ∙ has_l.there) ∙ file

marker_there : (c : Path) (u : Nodes) (rows : List Row) → StandsAtCut c u → KeysApart c u → AreRowsOf c u rows → (q : Path) (n : Node) → IsNear u q n
    → has_marker rows (key_of (c ++ q)) ≡ true → is_file (get u (q ++ marker ∷ [])) ≡ true
marker_there c u rows cut apart are q n has h =
    let found = Any-from_list_any (λ f. is_marker f && bytes_eq f.parent.0 (key_of (c ++ q))) rows h in
    let e = are.each found.1 (found.0, found.2, found.3) in
    let is = first_true (is_marker found.1) (bytes_eq found.1.parent.0 (key_of (c ++ q))) found.4 in
    let kind : kind_of c u e.0 e.1 ≡ File = sym (row_kind _ (c ++ e.0) e.1) ∙ ap (λ (x : Row). x.kind) (sym e.3) ∙ file_kind found.1.kind (first_true (same_kind found.1.kind File) (bytes_eq found.1.name marker) is) in
    let f = file_node c u e.0 e.1 kind in
    marker_at c u cut apart q e.0 n e.1 found.1 has e.2 (some_last e.0 f.0) e.3 f.1
    (second_true (same_kind found.1.kind File) (bytes_eq found.1.name marker) is)
    (second_true (is_marker found.1) (bytes_eq found.1.parent.0 (key_of (c ++ q))) found.4)

pub file_some : (o : Option Node) → is_file o ≡ true → (n : Node) × (o ≡ Some n) × (is_file (Some n) ≡ true)
file_some None file = absurd cc
file_some (Some n) file = (n, refl, file)

-- the marker of the cut itself has a row
own_marker : (c : Path) (u : Nodes) (rows : List Row) → StandsAtCut c u → AreRowsOf c u rows → c ≢ [] → has_marker rows (key_of c) ≡ true
own_marker c u rows cut are some =
    let f = file_some (get u (marker ∷ [])) (cut.marked some) in
    let near : IsNear u (marker ∷ []) f.0 = record { there = f.1; near = refl } in
    let row = row_at c u (marker ∷ []) f.0 in
    let has = are.all (marker ∷ []) f.0 near in
    let kind : row.kind ≡ File = row_kind _ (c ++ marker ∷ []) f.0 ∙ node_file c u (marker ∷ []) f.0 (λ e. cc) f.2 in
    let kinds : same_kind row.kind File ≡ true = ap (λ (k : RowKind). same_kind k File) kind in
    let names : bytes_eq row.name marker ≡ true = (bytes_eq-Decides row.name marker).1 (name_at c u [] marker f.0) in
    let keys : bytes_eq row.parent.0 (key_of c) ≡ true = (bytes_eq-Decides row.parent.0 (key_of c)).1 (parent_at c u [] marker f.0 ∙ ap key_of (append-nil c)) in
    list_any-from_Any (λ f. is_marker f && bytes_eq f.parent.0 (key_of c)) rows (has.0, row, has.1, has.2, rw (kinds, names, keys) refl)

-- the row of a directory is marked as it may be
marked_well : (c : Path) (u : Nodes) (rows : List Row) → StandsAtCut c u → KeysApart c u → AreRowsOf c u rows → (q : Path) (n : Node) → IsNear u q n → IsMarkedWell c rows (row_at c u q n)
marked_well c u rows cut apart are q n has = (
  λ kind other. false_from_ne_true _ (λ marked.
      let some : q ≢ [] = λ none. other (subst (λ (x : Path). IsRoot c (row_at c u x n)) (sym none) (root_row c u n)) in
      let d = directory_unmarked c u q n some (sym (row_kind _ (c ++ q) n) ∙ kind) in
      let file = marker_there c u rows cut apart are q n has (ap (has_marker rows) (sym (row_key _ (c ++ q) n)) ∙ marked) in
      let is : is_marked u q ≡ true = and_from (is_directory (get u q)) (is_file (get u (q ++ marker ∷ []))) (ap is_directory has.there ∙ d.0) file in
      let no : false ≡ true = sym d.1 ∙ is in
      cc),
  λ kind.
      let top = nested_root_at c u q n (sym (row_kind _ (c ++ q) n) ∙ kind) in
      ap (has_marker rows) (row_key _ (c ++ q) n ∙ ap key_of (ap (λ (x : Path). c ++ x) top.0 ∙ append-nil c)) ∙ own_marker c u rows cut are top.1,
)

-- ---- nested entries and Transition rows

transition : (c : Path) (u : Nodes) (d : Path) → (o : IsOther u d) → (row_at c u d o.node_).kind ≡ Transition
transition c u d o =
    let directory : is_directory (get u d) ≡ true = first_true (is_directory (get u d)) (is_file (get u (d ++ marker ∷ []))) o.marked in
    row_kind _ (c ++ d) o.node_ ∙ marked_transition c u d o.node_ o.below (ap is_directory (sym o.there.there) ∙ directory) o.marked

listed : (c : Path) (u : Nodes) (file : Path → List ℕ) (rows : List Row) (nested : List Nested) → StandsAtCut c u → KeysApart c u → AreRowsOf c u rows → AreEntriesOf c u file nested
    → (q : Path) (n : Node) → IsNear u q n → IsListed c rows nested (row_at c u q n)
listed c u file rows nested cut apart are entries q n has kind =
    let t = transition_marked c u q n (sym (row_kind _ (c ++ q) n) ∙ kind) in
    let o : IsOther u q = record { node_ = n; there = has; below = t.0; marked = t.1 } in
    (entry_of (c ++ q) (file q), entries.all q o, stands c u rows cut.part apart are q n has)

-- the rows and nested entries of a region are those of a catalogue, where no two of its paths share a key
pub region_rules : (c : Path) (u : Nodes) (file : Path → List ℕ) (rows : List Row) (nested : List Nested) → StandsAtCut c u → KeysApart c u → AreRowsOf c u rows → AreEntriesOf c u file nested
    → ((d : Path) → IsOther u d → length (file d) < 2 ^ 64) → IsRegion c rows nested
region_rules c u file rows nested cut apart are entries sizes =
    let top = root_node u cut.part in
    record {
      place = subst IsPath (append-nil c) (path_there c u cut [] top.0 top.1);
      spelled = recursion_from_All IsRow rows (each_all IsRow rows (keeps c u rows cut are));
      nested_spelled = recursion_from_All IsNested nested (each_all IsNested nested (λ n has.
          let e = entries.each n has in
          subst IsNested (sym e.2) (record { path = path_there c u cut e.0 e.1.node_ e.1.there; hash = digest_sha1 (file e.0); size = sizes e.0 e.1 })));
      root = (row_at c u [] top.0, are.all [] top.0 top.1, root_row c u top.0);
      placed = each_all (λ r. (q : Path) × StandsAt c rows r q × FitsAt c r q) rows (λ r has.
          let e = are.each r has in (
            c ++ e.0,
            subst (λ (x : Row). StandsAt c rows x (c ++ e.0)) (sym e.3) (stands c u rows cut.part apart are e.0 e.1 e.2),
            subst (λ (x : Row). FitsAt c x (c ++ e.0)) (sym e.3) (fits c u cut apart e.0 e.1 e.2),
          ));
      marked = each_all (IsMarkedWell c rows) rows (λ r has.
          let e = are.each r has in subst (IsMarkedWell c rows) (sym e.3) (marked_well c u rows cut apart are e.0 e.1 e.2));
      named = each_all (λ n. IsTransitionAt c rows n.path) nested (λ n has.
          let e = entries.each n has in
          subst (λ (x : Nested). IsTransitionAt c rows x.path) (sym e.2) (record {
            row = row_at c u e.0 e.1.node_;
            kind = transition c u e.0 e.1;
            stands = stands c u rows cut.part apart are e.0 e.1.node_ e.1.there;
          }));
      listed = each_all (IsListed c rows nested) rows (λ r has.
          let e = are.each r has in subst (IsListed c rows nested) (sym e.3) (listed c u file rows nested cut apart are entries e.0 e.1 e.2));
    }
