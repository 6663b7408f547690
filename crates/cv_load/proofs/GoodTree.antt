-- A good root means a tree: what load does, in the logic.
use Rattle.std.proofs.Common.{◌≡◌, ℕ, true, List, [], ◌∷◌, ◌++◌, length, None, Some, IsSome, is_some, refl, sym, ap, subst, ◌∙◌, arith, ◌≤◌, inl, inr}
use Rattle.std.specs.Prelude.{Contains, IsSomeAnd, nat_le}
use Rattle.std.specs.declared.option.Option.{Option}
use Rattle.std.specs.FinMap.{get, insert, empty, get-empty}
use Rattle.std.proofs.lemmas.List.Elements.{All-contains, All-from_recursion}
use Rattle.cv_base.specs.Path.{Path, path_cmp, IsPath}
use Rattle.cv_base.specs.Digest.{IsDigest}
use Rattle.cv_ports.specs.Shelf.{Shelf, IsShelf}
use Rattle.cv_tree.specs.Tree.{Nodes, IsTree, HasParents, is_directory}
use Rattle.cv_tree.specs.Node.{IsNode}
use Rattle.cv_tree.specs.declared.node.Node.{Node}
use Rattle.cv_tree.proofs.Laws.{some_directory}
use Rattle.cv_rows.specs.Row.{IsRow, HasContent, holds_rows, is_link_target}
use Rattle.cv_rows.specs.Catalogue.{Contents, IsCatalogue}
use Rattle.cv_rows.specs.Places.{StandsAt, root}
use Rattle.cv_rows.specs.declared.row.Row.{Row}
use Rattle.cv_rows.specs.declared.nested.Nested.{Nested}
use Rattle.cv_rows.specs.declared.row_kind.RowKind.{RowKind}
use Rattle.cv_rows.specs.declared.row_kind.RowKind.TheVariants.{Directory, Transition, NestedRoot, File, Link}
use Rattle.cv_rows.proofs.Lemmas.{stands_contained, one_place, fits_there}
use Rattle.cv_cut.specs.Reached.{Place, ReachesCatalogue, Reaches, root_place}
use Rattle.cv_cut.specs.Means.{Means}
use Rattle.cv_cut.proofs.Lemmas.{none_there, first_there, later_there, first_or_later, transition_of, holder_directory}
use Rattle.cv_load.specs.Growth.{Grows, GrowsBy}
use Rattle.cv_load.specs.GrowthInner.{IsOfRows, IsFilled, FillsIn, filled}
use Rattle.cv_cut.specs.Told.{node_of, node_as, hash_of}
use Rattle.cv_load.proofs.Growing.{place_of, still_there, added_by_insert, inserted_there, grows_more, grows_added}
use Rattle.cv_load.proofs.Filling.{filled_more, one_row}
use Rattle.cv_base.proofs.Laws.{second_true, last_same, some_there}
use Rattle.cv_base.specs.Target.{is_target}
use Rattle.cv_load.proofs.Standing.{root_dir, Standing, so_root, so_below, stands_so, rules_of, same_contents, one_node, moved, named_by, not_empty, parent_standing}
use Rattle.cv_load.proofs.Assembly.{IsWhole, all_filled, full}
use Rattle.cv_load.proofs.Means.{measured, measured_means}
use Rattle.cv_cut.specs.Good.{IsGood, good}

-- ---- the rows of one catalogue

-- a tree that grew by the rows of a catalogue, and now has the paths of these
record HasPlaced (c : Contents) (xs : List Row) (t : Nodes) : Type 0 where
  tree : Nodes
  grows : GrowsBy c.at c.rows t tree
  there : (r : Row) → Contains xs r → (q : Path) → StandsAt c.at c.rows r q → IsSome (get tree q)

grows_nothing : (c : Contents) (t : Nodes) → GrowsBy c.at c.rows t t
grows_nothing c t = record { grows = λ q n e. e; comes = λ q n e. inl e }

-- one row
place_row : (c : Contents) (r : Row) (t : Nodes) → IsCatalogue c → Contains c.rows r → (u : Nodes) × GrowsBy c.at c.rows t u × ((q : Path) → StandsAt c.at c.rows r q → IsSome (get u q))
place_row c r t is has =
    let p = place_of c r is has in
    let At = λ (u : Nodes). (q : Path) → StandsAt c.at c.rows r q → IsSome (get u q) in
    let here : (u : Nodes) → IsSome (get u p.0) → At u = λ u some q s. subst (λ (x : Path). IsSome (get u x)) (one_place is.ordered p.1 s) some in
    elim (get t p.0) as (λ o. get t p.0 ≡ o → (u : Nodes) × GrowsBy c.at c.rows t u × At u) [
      | None ↦ λ none. (insert t p.0 (node_of r), grows_added c.at c.rows r p.0 t (insert t p.0 (node_of r)) p.1 (added_by_insert p.0 r t (insert t p.0 (node_of r)) none refl), here (insert t p.0 (node_of r)) (inserted_there p.0 (node_of r) t (insert t p.0 (node_of r)) refl))
      | Some n ↦ λ some. (t, grows_nothing c t, here t (ap is_some some))
    ] refl

-- all of a list
place_all : (c : Contents) (xs : List Row) (t : Nodes) → IsCatalogue c → ((r : Row) → Contains xs r → Contains c.rows r) → HasPlaced c xs t
place_all c [] t is own = record { tree = t; grows = grows_nothing c t; there = λ r has. absurd (none_there r has) }
place_all c (x ∷ xs) t is own =
    let one = place_row c x t is (own x (first_there x xs)) in
    let rest = place_all c xs one.0 is (λ r has. own r (later_there x xs r has)) in
    record {
      tree = rest.tree;
      grows = grows_more c.at c.rows t one.0 rest.tree one.1 rest.grows;
      there = λ r has q s. elim (first_or_later x xs r has) [
        | inl same ↦ still_there one.0 rest.tree q rest.grows.grows (one.2 q (subst (λ (y : Row). StandsAt c.at c.rows y q) (sym same) s))
        | inr later ↦ rest.there r later q s
      ];
    }

-- ---- the catalogues of its nested entries

-- what a tree becomes that is filled in from a place on
abbrev IsFill : Shelf → List ℕ → List ℕ → Place → Type 0
IsFill shelf top hash place = (old : Nodes) → IsOfRows shelf top old → (new : Nodes) × FillsIn shelf top hash place old new

record HasFills (shelf : Shelf) (top : List ℕ) (c : Contents) (xs : List Nested) (t : Nodes) : Type 0 where
  tree : Nodes
  grows : Grows t tree
  rows : IsOfRows shelf top tree
  nested : (n : Nested) → Contains xs n → (r : Row) → r.kind ≡ Transition → StandsAt c.at c.rows r n.path → IsFilled shelf tree n.hash (record { path = n.path; row = Some r })

fill_all : (shelf : Shelf) (top : List ℕ) (c : Contents) (xs : List Nested) (t : Nodes) → IsCatalogue c → ((n : Nested) → Contains xs n → Contains c.nested n) → IsOfRows shelf top t
    → ((n : Nested) (r : Row) → Contains c.nested n → r.kind ≡ Transition → StandsAt c.at c.rows r n.path → IsFill shelf top n.hash (record { path = n.path; row = Some r })) → HasFills shelf top c xs t
fill_all shelf top c [] t is own rows fill = record { tree = t; grows = λ q n e. e; rows = rows; nested = λ n has. absurd (none_there n has) }
fill_all shelf top c (x ∷ xs) t is own rows fill =
    let has_x = own x (first_there x xs) in
    let tr = transition_of c x is has_x in
    let one = fill x tr.0 has_x tr.1.kind tr.1.stands t rows in
    let rest = fill_all shelf top c xs one.0 is (λ n has. own n (later_there x xs n has)) one.1.rows fill in
    record {
      tree = rest.tree;
      grows = λ q n e. rest.grows q n (one.1.grows q n e);
      rows = rest.rows;
      nested = λ n has r kind s. elim (first_or_later x xs n has) [
        | inl same ↦
            let s_x : StandsAt c.at c.rows r x.path = subst (λ (m : Nested). StandsAt c.at c.rows r m.path) (sym same) s in
            let row : tr.0 ≡ r = one_row c tr.0 r x.path is tr.1.stands s_x in
            let more = filled_more rest.tree rest.grows one.1.filled in
            subst (λ (m : Nested). IsFilled shelf rest.tree m.hash (record { path = m.path; row = Some r })) same
            (subst (λ (y : Row). IsFilled shelf rest.tree x.hash (record { path = x.path; row = Some y })) row more)
        | inr later ↦ rest.nested n later r kind s
      ];
    }

-- ---- all that is reached

pub fill_good : {shelf : Shelf} {hash : List ℕ} {place : Place} (top : List ℕ) → IsGood shelf hash place → ReachesCatalogue shelf top hash place → IsFill shelf top hash place
fill_good {shelf} {hash} {place} top (good {c = c} has files sizes deeper) reached old rows =
    let is : IsCatalogue c = has.decodes.is in
    let own = place_all c c.rows old is (λ r there. there) in
    let now : IsOfRows shelf top own.tree = λ q n e. elim (own.grows.comes q n e) [
      | inl was ↦ rows q n was
      | inr came ↦ record { hash = hash; place = place; contents = c; reached = reached; has = has; node_ = came }
    ] in
    let rest = fill_all shelf top c c.nested own.tree is (λ n there. there) now (λ n r there kind s. fill_good top (deeper n r there kind s) (Reaches.nested reached has there kind s)) in (
      rest.tree,
      record {
        grows = λ q n e. rest.grows q n (own.grows.grows q n e);
        rows = rest.rows;
        filled = filled has files sizes (λ r q s. still_there own.tree rest.tree q rest.grows (own.there r (stands_contained s) q s)) (λ n r there kind s. rest.nested n there r kind s);
      },
    )

-- ---- what comes of it is a tree

digest_of : (h : Option (List ℕ)) → IsSomeAnd h IsDigest → IsDigest (hash_of h)
digest_of None is = absurd is
digest_of (Some hash) is = is

target_some : (target : List ℕ) → is_link_target target ≡ true → 1 ≤ length target
target_some [] h = absurd cc
target_some (x ∷ xs) h = omega arith

-- the node of a row keeps its limits
pub node_limits : (r : Row) → IsRow r → IsNode (node_of r)
node_limits r is = go r.kind is.content
  where
    go : (k : RowKind) → HasContent k r.size r.hash r.target → IsNode (node_as k r)
    go Directory h = is.attr
    go Transition h = is.attr
    go NestedRoot h = is.attr
    go File h = (is.attr, record { hash = digest_of r.hash h.1; size = h.0 })
    go Link h = (is.attr, record { some = target_some r.target h.2; text = second_true (nat_le 1 (length r.target)) (is_target r.target) h.2 })

module _ {shelf : Shelf} {top : List ℕ} {t : Nodes} (fills : IsFilled shelf t top root_place) (rows : IsOfRows shelf top t) where
  standing : (q : Path) (n : Node) → get t q ≡ Some n → (s : Standing shelf top q) × (n ≡ node_of s.row)
  standing q n e =
      let r = rows q n e in
      (record { hash = r.hash; place = r.place; contents = r.contents; open_ = record { reached = r.reached; has = r.has }; row = r.node_.row; stands = r.node_.stands }, r.node_.is)

  node_at : (q : Path) (s : Standing shelf top q) → get t q ≡ Some (node_of s.row)
  node_at q s =
      let f = full (all_filled fills s.open_.reached) in
      let same = same_contents shelf s.hash s.hash s.place s.place s.contents f.contents refl refl s.open_.has f.has in
      let n = some_there (get t q) (f.there s.row q (subst (λ (c : Contents). StandsAt c.at c.rows s.row q) same s.stands)) in
      let o = standing q n.0 n.1 in
      n.1 ∙ ap Some (o.1 ∙ one_node o.0 s)

  -- a row below which rows may stand is a directory there
  holder_there : (q : Path) (s : Standing shelf top q) → holds_rows s.row.kind ≡ true → is_directory (get t q) ≡ true
  holder_there q s holds = ap is_directory (node_at q s) ∙ holder_directory s.row.kind s.row holds

  parents : HasParents t
  parents q name some =
      let n = some_there (get t (q ++ name ∷ [])) some in
      let s = (standing (q ++ name ∷ []) n.0 n.1).0 in
      elim (stands_so s.stands) [
        | so_root has is at_p ↦
            let m = named_by s at_p (not_empty q name) in
            let above : m.above ≡ q = (last_same m.above q m.row.row.name name (sym m.path)).0 in
            holder_there q (moved m.above q above m.parent) m.holds
        | so_below p front has other up child way ↦
            let above : front ≡ q = (last_same front q s.row.name name (sym way)).0 in
            holder_there q (moved front q above (parent_standing s.open_ p front up)) child.holds
      ]

  path_there : (q : Path) → IsSome (get t q) → IsPath q
  path_there q some =
      let n = some_there (get t q) some in
      let s = (standing q n.0 n.1).0 in
      let is = rules_of s.open_ in
      (fits_there s.contents.at s.contents.rows s.row q is.ordered is.region.placed s.stands).path

  node_keeps : (q : Path) (n : Node) → get t q ≡ Some n → IsNode n
  node_keeps q n e =
      let o = standing q n e in
      let s = o.0 in
      let is = rules_of s.open_ in
      subst IsNode (sym o.1) (node_limits s.row (All-contains IsRow s.contents.rows s.row (All-from_recursion IsRow s.contents.rows is.region.spelled) (stands_contained s.stands)))

  root_there : is_directory (get t []) ≡ true
  root_there =
      let f = full fills in
      let is : IsCatalogue f.contents = f.has.decodes.is in
      let r = is.region.root in
      let at_top : f.contents.at ≡ [] = f.has.decodes.at in
      let s : Standing shelf top [] = record { hash = top; place = root_place; contents = f.contents; open_ = record { reached = Reaches.itself; has = f.has }; row = r.0; stands = subst (StandsAt f.contents.at f.contents.rows r.0) at_top (root r.1 r.2) } in
      ap is_directory (node_at [] s ∙ ap Some (root_dir f.contents.at r.0 r.2.kind))

  tree_there : IsTree t
  tree_there = record {
    root = root_there;
    part = record { root = some_directory (get t []) root_there; parents = parents; paths = path_there; nodes = node_keeps };
  }

pub whole_of_good : (shelf : Shelf) (top : List ℕ) → IsGood shelf top root_place → (t : Nodes) × IsWhole shelf top t
whole_of_good shelf top is =
    let f = fill_good top is Reaches.itself empty (λ q n e. absurd (let wrong : None ≡ Some n = sym (get-empty path_cmp q) ∙ e in cc)) in
    (f.0, record { tree = tree_there f.1.filled f.1.rows; filled = f.1.filled; rows = f.1.rows })

pub a_tree_is_meant : (shelf : Shelf) (top : List ℕ) → IsShelf shelf → IsGood shelf top root_place → (t : Nodes) × Means shelf top t
a_tree_is_meant shelf top hashes is = let w = whole_of_good shelf top is in (w.0, measured_means shelf top w.0 hashes (measured w.1))
