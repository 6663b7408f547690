-- The tree that all rows of reached catalogues make.
use Rattle.std.proofs.Common.{◌≡◌, ◌≢◌, ℕ, true, false, ◌&&◌, List, [], ◌∷◌, ◌++◌, Some, refl, sym, ap, subst, ◌∙◌}
use Rattle.std.specs.Prelude.{Contains, bytes_eq}
use Rattle.std.specs.FinMap.{get}
use Rattle.std.proofs.lemmas.Bool.{false_from_ne_true, and_from}
use Rattle.std.proofs.lemmas.List.Elements.{All-contains}
use Rattle.std.proofs.lemmas.List.Folds.{Any-from_list_any, list_any-from_Any}
use Rattle.std.proofs.lemmas.Slice.Eq.{bytes_eq-Decides}
use Rattle.cv_base.specs.Marker.{marker}
use Rattle.cv_base.specs.Path.{Path}
use Rattle.cv_ports.specs.Shelf.{Shelf}
use Rattle.cv_tree.specs.Tree.{Nodes, IsTree, is_directory, is_file}
use Rattle.cv_tree.specs.declared.node.Node.{Node}
use Rattle.cv_rows.specs.Row.{holds_rows, same_kind}
use Rattle.cv_rows.specs.Catalogue.{Contents, IsMarkedWell, is_marker, has_marker}
use Rattle.cv_rows.specs.Places.{IsRoot, StandsAt, root, root_kind}
use Rattle.cv_rows.specs.declared.row.Row.{Row}
use Rattle.cv_rows.specs.declared.nested.Nested.{Nested}
use Rattle.cv_rows.specs.declared.row_kind.RowKind.{RowKind}
use Rattle.cv_rows.specs.declared.row_kind.RowKind.TheVariants.{Directory, Transition, NestedRoot, File, Link}
use Rattle.cv_rows.proofs.Lemmas.{stands_contained, same_by_key, one_place}
use Rattle.cv_cut.specs.Reached.{Place, HasCatalogue, ReachesCatalogue, itself, nested, root_place}
use Rattle.cv_cut.specs.Cuts.{is_marked}
use Rattle.cv_base.specs.ObjectId.{object_id}
use Rattle.cv_base.specs.declared.id.Kind.TheVariants as id_kind
use Rattle.cv_base.proofs.Laws.{first_true, second_true, last_same, some_there}
use Rattle.cv_load.specs.GrowthInner.{HasRows, IsOfRows, IsFilled, filled}
use Rattle.cv_cut.specs.Told.{node_of, node_as}
use Rattle.cv_load.proofs.Growing.{place_of}
use Rattle.cv_load.proofs.Standing.{IsOpen, Standing, so_root, so_below, stands_so, rules_of, same_contents, contents_same, row_same, one_holder, one_node, moved, parent_standing}
use Rattle.cv_cut.specs.Good.{HasFile, HasSize}
use Rattle.cv_cut.proofs.Lemmas.{root_no_file, file_kind, file_some}

-- ---- kinds of rows

nested_kind : (c : Path) → c ≢ [] → root_kind c ≡ NestedRoot
nested_kind [] some = absurd (some refl)
nested_kind (a ∷ c) some = refl

pub file_row : (r : Row) → is_file (Some (node_of r)) ≡ true → r.kind ≡ File
file_row r = go r.kind
  where
    go : (k : RowKind) → is_file (Some (node_as k r)) ≡ true → k ≡ File
    go Directory h = absurd cc
    go Transition h = absurd cc
    go NestedRoot h = absurd cc
    go File h = refl
    go Link h = absurd cc

row_file : (r : Row) → r.kind ≡ File → is_file (Some (node_of r)) ≡ true
row_file r kind = ap (λ (k : RowKind). is_file (Some (node_as k r))) kind

row_directory : (c : Path) (r : Row) → r.kind ≡ root_kind c → is_directory (Some (node_of r)) ≡ true
row_directory [] r kind = ap (λ (k : RowKind). is_directory (Some (node_as k r))) kind
row_directory (a ∷ c) r kind = ap (λ (k : RowKind). is_directory (Some (node_as k r))) kind

marker_row : (f : Row) → is_marker f ≡ true → (f.kind ≡ File) × (f.name ≡ marker)
marker_row f h = (
  file_kind f.kind (first_true (same_kind f.kind File) (bytes_eq f.name marker) h),
  (bytes_eq-Decides f.name marker).0 (second_true (same_kind f.kind File) (bytes_eq f.name marker) h),
)

-- ---- all rows

-- the tree has a node for each row that is reached, and no others
pub record IsWhole (shelf : Shelf) (top : List ℕ) (t : Nodes) : Type 0 where
  pub tree : IsTree t
  pub filled : IsFilled shelf t top root_place
  pub rows : IsOfRows shelf top t

-- all that is reached is filled in
pub all_filled : {shelf : Shelf} {top hash : List ℕ} {place : Place} {t : Nodes} → IsFilled shelf t top root_place → ReachesCatalogue shelf top hash place → IsFilled shelf t hash place
all_filled whole itself = whole
all_filled {shelf} {top} {t = t} whole (nested {hash = above} {place = over} {c = c} {n = n} {r = r} reached has there kind stands) = go (all_filled whole reached)
  where
    go : IsFilled shelf t above over → IsFilled shelf t n.hash (record { path = n.path; row = Some r })
    go (filled {c = d} had files sizes all deeper) =
        let same = same_contents shelf above above over over c d refl refl has had in
        deeper n r (subst (λ (x : Contents). Contains x.nested n) same there) kind (subst (λ (x : Contents). StandsAt x.at x.rows r n.path) same stands)

-- what a catalogue that is filled in has
pub record IsFull (shelf : Shelf) (t : Nodes) (hash : List ℕ) (place : Place) : Type 0 where
  pub contents : Contents
  pub has : HasCatalogue shelf hash place contents
  pub files : (r : Row) → Contains contents.rows r → HasFile shelf r
  pub sizes : (n : Nested) → Contains contents.nested n → HasSize shelf (object_id n.hash id_kind.Catalogue) n.size
  pub there : HasRows contents t

pub full : {shelf : Shelf} {t : Nodes} {hash : List ℕ} {place : Place} → IsFilled shelf t hash place → IsFull shelf t hash place
full (filled {c = c} has files sizes there deeper) = record { contents = c; has = has; files = files; sizes = sizes; there = there }

module _ {shelf : Shelf} {top : List ℕ} {t : Nodes} (whole : IsWhole shelf top t) where
  pub full_of : {hash : List ℕ} {place : Place} → ReachesCatalogue shelf top hash place → IsFull shelf t hash place
  full_of reached = full (all_filled whole.filled reached)

  -- the row of a node
  pub standing_of : (q : Path) (n : Node) → get t q ≡ Some n → (s : Standing shelf top q) × (n ≡ node_of s.row)
  standing_of q n e =
      let r = whole.rows q n e in
      (record { hash = r.hash; place = r.place; contents = r.contents; open_ = record { reached = r.reached; has = r.has }; row = r.node_.row; stands = r.node_.stands }, r.node_.is)

  -- the node of a row
  pub node_there : (q : Path) (s : Standing shelf top q) → get t q ≡ Some (node_of s.row)
  node_there q s =
      let f = full_of s.open_.reached in
      let same = same_contents shelf s.hash s.hash s.place s.place s.contents f.contents refl refl s.open_.has f.has in
      let n = some_there (get t q) (f.there s.row q (subst (λ (c : Contents). StandsAt c.at c.rows s.row q) same s.stands)) in
      let o = standing_of q n.0 n.1 in
      n.1 ∙ ap Some (o.1 ∙ one_node o.0 s)

  -- ---- markers

  -- the catalogue at a place that isn't the root begins at a marked directory
  pub open_marked : {hash : List ℕ} {place : Place} {c : Contents} → IsOpen shelf top hash place c → c.at ≢ [] → is_marked t c.at ≡ true
  open_marked {hash} {place} {c} o some =
      let rules = rules_of o in
      let top_row = rules.region.root in
      let at_top : StandsAt c.at c.rows top_row.0 c.at = root top_row.1 top_row.2 in
      let marked = (All-contains (IsMarkedWell c.at c.rows) c.rows top_row.0 rules.region.marked top_row.1).1 (top_row.2.kind ∙ nested_kind c.at some) in
      let found = Any-from_list_any (λ f. is_marker f && bytes_eq f.parent.0 top_row.0.key.0) c.rows marked in
      let f = found.1 in
      let has : Contains c.rows f = (found.0, found.2, found.3) in
      let is = marker_row f (first_true (is_marker f) (bytes_eq f.parent.0 top_row.0.key.0) found.4) in
      let key = (bytes_eq-Decides f.parent.0 top_row.0.key.0).0 (second_true (is_marker f) (bytes_eq f.parent.0 top_row.0.key.0) found.4) in
      let p = place_of c f rules has in
      let path : p.0 ≡ c.at ++ marker ∷ [] = elim (stands_so p.1) [
        | so_root has_f is_f at_f ↦ absurd (root_no_file c.at (sym is_f.kind ∙ is.0))
        | so_below o front has_f other up child way ↦
            let one : o ≡ top_row.0 = same_by_key c.rows o top_row.0 rules.ordered (stands_contained up) top_row.1 (sym child.parent ∙ key) in
            let same : front ≡ c.at = one_place rules.ordered (subst (λ (r : Row). StandsAt c.at c.rows r front) one up) at_top in
            way ∙ (λ i. same i ++ is.1 i ∷ [])
      ] in
      let directory = node_there c.at (record { hash = hash; place = place; contents = c; open_ = o; row = top_row.0; stands = at_top }) in
      let file = node_there (c.at ++ marker ∷ []) (record { hash = hash; place = place; contents = c; open_ = o; row = f; stands = subst (StandsAt c.at c.rows f) path p.1 }) in
      and_from _ _ (ap is_directory directory ∙ row_directory c.at top_row.0 top_row.2.kind) (ap is_file file ∙ row_file f is.0)

  -- a directory in a catalogue isn't marked
  pub directory_unmarked : (q : Path) (s : Standing shelf top q) → s.row.kind ≡ Directory → (IsRoot s.contents.at s.row → ⊥) → is_marked t q ≡ false
  directory_unmarked q s kind other = false_from_ne_true (is_marked t q) (λ marked.
      let n = file_some (get t (q ++ marker ∷ [])) (second_true (is_directory (get t q)) (is_file (get t (q ++ marker ∷ []))) marked) in
      let o = standing_of (q ++ marker ∷ []) n.0 n.1 in
      let f = o.0 in
      let is_f = file_row f.row (ap (λ (x : Node). is_file (Some x)) (sym o.1) ∙ n.2) in
      elim (stands_so f.stands) [
        | so_root has_f root_f at_f ↦ absurd (root_no_file f.contents.at (sym root_f.kind ∙ is_f))
        | so_below p front has_f away up child way ↦
            let ends = last_same front q f.row.name marker (sym way) in
            let above = moved front q ends.0 (parent_standing f.open_ p front up) in
            let together = one_holder above s child.holds (ap holds_rows kind) in
            let row = row_same above s together in
            let has : Contains s.contents.rows f.row = subst (λ (c : Contents). Contains c.rows f.row) (contents_same above s together) has_f in
            let kinds : same_kind f.row.kind File ≡ true = ap (λ (k : RowKind). same_kind k File) is_f in
            let names : bytes_eq f.row.name marker ≡ true = (bytes_eq-Decides f.row.name marker).1 ends.1 in
            let keys : bytes_eq f.row.parent.0 s.row.key.0 ≡ true = (bytes_eq-Decides f.row.parent.0 s.row.key.0).1 (child.parent ∙ ap (λ (r : Row). r.key.0) row) in
            let has_one : has_marker s.contents.rows s.row.key.0 ≡ true = list_any-from_Any (λ g. is_marker g && bytes_eq g.parent.0 s.row.key.0) s.contents.rows (has.0, f.row, has.1, has.2, and_from _ _ (and_from _ _ kinds names) keys) in
            let none = (All-contains (IsMarkedWell s.contents.at s.contents.rows) s.contents.rows s.row (rules_of s.open_).region.marked (stands_contained s.stands)).0 kind other in
            let wrong : true ≡ false = sym has_one ∙ none in
            absurd cc
      ])
