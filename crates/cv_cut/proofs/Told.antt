-- What the rows and nested entries of a canonical catalogue tell of its tree, and that it decodes at its place.
use Rattle.std.proofs.Common.{◌≡◌, ◌≢◌, ℕ, Bool, true, false, List, [], ◌∷◌, ◌++◌, refl, sym, ap, subst, ◌∙◌, append-nil, append_assoc}
use Rattle.std.specs.Prelude.{Contains}
use Rattle.std.specs.declared.option.Option.TheVariants.{None, Some}
use Rattle.std.specs.FinMap.{get}
use Rattle.std.proofs.lemmas.List.Sorted.{IsPermutation-sym, Contains-permutation}
use Rattle.cv_base.specs.Marker.{marker}
use Rattle.cv_base.specs.Path.{Path, text_of}
use Rattle.cv_base.proofs.Laws.{first_true}
use Rattle.cv_tree.specs.Tree.{Nodes, IsTree, at, is_directory, is_file}
use Rattle.cv_tree.specs.declared.node.Node.{Node}
use Rattle.cv_tree.specs.declared.node.Node.TheVariants as node
use Rattle.cv_tree.proofs.Laws.{get-at}
use Rattle.cv_rows.specs.Catalogue.{Contents}
use Rattle.cv_rows.specs.Made.{by_key, by_text}
use Rattle.cv_rows.specs.Places.{StandsAt, root_kind}
use Rattle.cv_rows.specs.Row.{same_kind}
use Rattle.cv_rows.specs.declared.row.Row.{Row}
use Rattle.cv_rows.specs.declared.nested.Nested.{Nested}
use Rattle.cv_rows.specs.declared.row_kind.RowKind.{RowKind}
use Rattle.cv_rows.specs.declared.row_kind.RowKind.TheVariants as kind
use Rattle.cv_rows.proofs.Lemmas.{one_file, has_file}
use Rattle.cv_cut.specs.Cuts.{is_cut, is_marked}
use Rattle.cv_cut.specs.Catalogues.{kind_of, row_of, entry_of, rows_of, nested_of, cat, Fits}
use Rattle.cv_cut.specs.Reached.{Place, root_place, Decodes}
use Rattle.cv_cut.specs.Over.{IsNearest}
use Rattle.cv_cut.specs.Told.{node_of, IsEntryOfCut}
use Rattle.cv_cut.specs.Catalogues.{contents_of}
use Rattle.cv_cut.proofs.Ends.{near_below}
use Rattle.cv_cut.proofs.Canonical.{cat_is}
use Rattle.cv_cut.proofs.Regions.{IsRowThere, root_node, stands, stands_only}
use Rattle.cv_cut.proofs.RegionRules.{StandsAtCut, stands_at_cut}
use Rattle.cv_cut.proofs.RegionLists.{row_list, nested_list, row_list_are, nested_list_are, keys_apart, texts_apart, rows_of-by_key, nested_of-by_text}
use Rattle.cv_cut.proofs.Sorted.{order_moves}
use Rattle.cv_cut.proofs.RowFacts.{row_kind, root_row, transition_marked, marked_transition}
use Rattle.cv_cut.proofs.CanonicalRules.{canonical_at, cut_some, fits_at_cut, other_cut, region_apart}
use Rattle.cv_cut.proofs.Between.{marked-at}
use Rattle.cv_cut.specs.Region.{IsNear, KeysApart, FitsAtCut, row_at, AreRowsOf, AreEntriesOf}

-- ---- rows and entries of a region

pub rows_are : (c : Path) (u : Nodes) → KeysApart c u → AreRowsOf c u (rows_of c u)
rows_are c u apart =
    let moved = order_moves (λ (r : Row). r.key.0) (row_list c u) (keys_apart c u apart) in
    let are = row_list_are c u in
    subst (AreRowsOf c u) (sym (rows_of-by_key c u)) (record {
      each = λ r has. are.each r (Contains-permutation (by_key (row_list c u)) (row_list c u) r (IsPermutation-sym (row_list c u) (by_key (row_list c u)) moved) has);
      all = λ q n has. Contains-permutation (row_list c u) (by_key (row_list c u)) _ moved (are.all q n has);
    })

pub entries_are : (c : Path) (u : Nodes) (file : Path → List ℕ) → StandsAtCut c u → AreEntriesOf c u file (nested_of c u file)
entries_are c u file cut =
    let list = nested_list c u file in
    let moved = order_moves (λ (n : Nested). text_of n.path) list (texts_apart c u file cut) in
    let are = nested_list_are c u file in
    subst (AreEntriesOf c u file) (sym (nested_of-by_text c u file)) (record {
      each = λ n has. are.each n (Contains-permutation (by_text list) list n (IsPermutation-sym list (by_text list) moved) has);
      all = λ d o. Contains-permutation list (by_text list) _ moved (are.all d o);
    })

-- ---- the node of a row

node_row : (c : Path) (u : Nodes) (q p : Path) (n : Node) → (q ≡ [] → is_directory (Some n) ≡ true) → node_of (row_of (kind_of c u q n) p n) ≡ n
node_row [] u [] p (node.Dir attr) top = refl
node_row (a ∷ c) u [] p (node.Dir attr) top = refl
node_row c u [] p (node.File attr file) top = absurd (let e : false ≡ true = top refl in cc)
node_row c u [] p (node.Link attr target) top = absurd (let e : false ≡ true = top refl in cc)
node_row c u (b ∷ q) p (node.Dir attr) top = by_mark (is_marked u (b ∷ q)) refl
  where
    by_mark : (m : Bool) → is_marked u (b ∷ q) ≡ m → node_of (row_of (kind_of c u (b ∷ q) (node.Dir attr)) p (node.Dir attr)) ≡ node.Dir attr
    by_mark true h = rw h refl
    by_mark false h = rw h refl
node_row c u (b ∷ q) p (node.File attr file) top = refl
node_row c u (b ∷ q) p (node.Link attr target) top = refl

marked_cut : (t : Nodes) (p : Path) → is_marked t p ≡ true → is_cut t p ≡ true
marked_cut t [] h = refl
marked_cut t (a ∷ p) h = h

cut_marked : (t : Nodes) (p : Path) → p ≢ [] → is_cut t p ≡ true → is_marked t p ≡ true
cut_marked t [] some h = absurd (some refl)
cut_marked t (a ∷ p) some h = h

append_some : (c q : Path) → q ≢ [] → c ++ q ≢ []
append_some [] q some h = some h
append_some (a ∷ c) q some h = cc

is_transition : (k : RowKind) → k ≢ kind.Transition → same_kind k kind.Transition ≡ false
is_transition kind.Directory h = refl
is_transition kind.Transition h = absurd (h refl)
is_transition kind.NestedRoot h = refl
is_transition kind.File h = refl
is_transition kind.Link h = refl

transition_is : (k : RowKind) → same_kind k kind.Transition ≡ true → k ≡ kind.Transition
transition_is kind.Directory h = absurd cc
transition_is kind.Transition h = refl
transition_is kind.NestedRoot h = absurd cc
transition_is kind.File h = absurd cc
transition_is kind.Link h = absurd cc

-- ---- a cut of a tree

-- the nested entries are those of cuts
pub entry_tells : (t : Nodes) → IsTree t → (c : Path) → is_cut t c ≡ true → (n : Nested) → Contains (contents_of t c).nested n → IsEntryOfCut t n
entry_tells t tree c cut n has =
    let e = (entries_are c (at t c) (λ d. cat t (c ++ d)) (stands_at_cut t c tree cut)).each n has in
    subst (IsEntryOfCut t) (sym e.2) (record { cut = other_cut t c e.0 e.1; hash = refl; size = refl })

module _ (t : Nodes) (tree : IsTree t) (c : Path) (cut : is_cut t c ≡ true) (apart : KeysApart c (at t c)) where
  here : StandsAtCut c (at t c)
  here = stands_at_cut t c tree cut

  there : {r : Row} {q : Path} → StandsAt c (contents_of t c).rows r q → IsRowThere c (at t c) r q
  there s = stands_only c (at t c) (rows_of c (at t c)) here.part apart (rows_are c (at t c) apart) s

  node_there : {r : Row} {q : Path} → (s : IsRowThere c (at t c) r q) → get t q ≡ Some s.node_
  node_there s = ap (get t) s.place ∙ sym (get-at t c s.rest) ∙ s.there.there

  -- a row tells the node of the path at which it stands
  pub row_tells : (r : Row) (q : Path) → StandsAt c (contents_of t c).rows r q → get t q ≡ Some (node_of r)
  row_tells r q st =
      let s = there st in
      let top : s.rest ≡ [] → is_directory (Some s.node_) ≡ true = λ none. ap is_directory (sym s.there.there ∙ ap (get (at t c)) none) ∙ here.directory in
      node_there s ∙ ap Some (sym (ap node_of s.row ∙ node_row c (at t c) s.rest (c ++ s.rest) s.node_ top))

  row_kind_is : {r : Row} {q : Path} → (s : IsRowThere c (at t c) r q) → r.kind ≡ kind_of c (at t c) s.rest s.node_
  row_kind_is s = ap (λ (x : Row). x.kind) s.row ∙ row_kind _ (c ++ s.rest) s.node_

  transition_cut : {r : Row} {q : Path} → IsRowThere c (at t c) r q → r.kind ≡ kind.Transition → is_cut t q ≡ true
  transition_cut {q = q} s is =
      let m = transition_marked c (at t c) s.rest s.node_ (sym (row_kind_is s) ∙ is) in
      marked_cut t q (ap (is_marked t) s.place ∙ marked-at t c s.rest ∙ m.1)

  cut_transition : {r : Row} {q : Path} → IsRowThere c (at t c) r q → q ≢ c → is_cut t q ≡ true → r.kind ≡ kind.Transition
  cut_transition {q = q} s other is =
      let some : s.rest ≢ [] = λ none. other (s.place ∙ ap (λ (w : Path). c ++ w) none ∙ append-nil c) in
      let marked : is_marked (at t c) s.rest ≡ true = sym (marked-at t c s.rest) ∙ ap (is_marked t) (sym s.place) ∙ cut_marked t q (λ none. append_some c s.rest some (sym s.place ∙ none)) is in
      let directory : is_directory (Some s.node_) ≡ true = ap is_directory (sym s.there.there) ∙ first_true (is_directory (get (at t c) s.rest)) (is_file (get (at t c) (s.rest ++ marker ∷ []))) marked in
      row_kind_is s ∙ marked_transition c (at t c) s.rest s.node_ some directory marked

  -- and whether it is another cut
  pub row_tells_cut : (r : Row) (q : Path) → StandsAt c (contents_of t c).rows r q → q ≢ c → is_cut t q ≡ same_kind r.kind kind.Transition
  row_tells_cut r q st other =
      let s = there st in
      elim (is_cut t q) as (λ b. is_cut t q ≡ b → b ≡ same_kind r.kind kind.Transition) [
        | true ↦ λ is. sym (ap (λ k. same_kind k kind.Transition) (cut_transition s other is))
        | false ↦ λ is. sym (is_transition r.kind (λ k. let e : false ≡ true = sym is ∙ transition_cut s k in cc))
      ] refl

  -- where no row stands, nothing stands in the tree
  pub no_row_tells : (p : Path) (a : List ℕ) → IsNearest t c p → ((r : Row) → StandsAt c (contents_of t c).rows r (p ++ a ∷ []) → ⊥) → get t (p ++ a ∷ []) ≡ None
  no_row_tells p a n none =
      let rest = n.rest ++ a ∷ [] in
      let place : c ++ rest ≡ p ++ a ∷ [] = sym (ap (λ (w : Path). w ++ a ∷ []) n.is ∙ append_assoc c n.rest (a ∷ [])) in
      let near = near_below (at t c) n.rest a n.near n.free in
      elim (get t (p ++ a ∷ [])) as (λ o. get t (p ++ a ∷ []) ≡ o → o ≡ None) [
        | None ↦ λ is. refl
        | Some m ↦ λ is.
            let has : IsNear (at t c) rest m = record { there = get-at t c rest ∙ ap (get t) place ∙ is; near = near } in
            let st = stands c (at t c) (rows_of c (at t c)) here.part apart (rows_are c (at t c) apart) rest m has in
            absurd (none _ (subst (λ (w : Path). StandsAt c (rows_of c (at t c)) (row_at c (at t c) rest m) w) place st))
      ] refl

  -- each other cut of the region has a nested entry
  pub transition_listed : (r : Row) (q : Path) → StandsAt c (contents_of t c).rows r q → r.kind ≡ kind.Transition → Contains (contents_of t c).nested (entry_of q (cat t q))
  transition_listed r q st is =
      let s = there st in
      let m = transition_marked c (at t c) s.rest s.node_ (sym (row_kind_is s) ∙ is) in
      let has = (entries_are c (at t c) (λ d. cat t (c ++ d)) here).all s.rest (record { node_ = s.node_; there = s.there; below = m.0; marked = m.1 }) in
      subst (λ (w : Path). Contains (contents_of t c).nested (entry_of w (cat t w))) (sym s.place) has

-- ---- decoding

other_kind : (k l : RowKind) (p : Path) (n : Node) → row_of k p n ≡ record (row_of l p n) { kind = (row_of k p n).kind }
other_kind k l p (node.Dir attr) = refl
other_kind k l p (node.File attr file) = refl
other_kind k l p (node.Link attr target) = refl

pub same_fields : (k l : RowKind) (p q : Path) (m n : Node) (r : Row) → p ≡ q → m ≡ n → r ≡ row_of l q n → row_of k p m ≡ record r { kind = (row_of k p m).kind }
same_fields k l p q m n r places nodes is =
    let same : row_of l p m ≡ r = (λ i. row_of l (places i) (nodes i)) ∙ sym is in
    other_kind k l p m ∙ ap (λ (x : Row). record x { kind = (row_of k p m).kind }) same

-- the canonical catalogue at the root decodes there
pub root_decodes_at : (t : Nodes) → IsTree t → FitsAtCut t [] → Decodes root_place (cat t []) (contents_of t [])
root_decodes_at t tree fits = record { at = refl; is = canonical_at t [] tree refl fits; spelled = cat_is t [] tree (cut_some t [] tree refl); row = tt }

pub root_decodes : (t : Nodes) → IsTree t → Fits t → Decodes root_place (cat t []) (contents_of t [])
root_decodes t tree fits = root_decodes_at t tree (fits_at_cut t [] refl fits)

-- that of a Transition row decodes at its path
pub nested_decodes_at : (t : Nodes) (tree : IsTree t) (c : Path) (cut : is_cut t c ≡ true) (apart : KeysApart c (at t c)) (r : Row) (q : Path) → StandsAt c (contents_of t c).rows r q → r.kind ≡ kind.Transition → FitsAtCut t q
    → Decodes (record { path = q; row = Some r }) (cat t q) (contents_of t q)
nested_decodes_at t tree c cut apart r q st is fits =
    let s = there t tree c cut apart st in
    let cut_q = transition_cut t tree c cut apart s is in
    let m = root_node (at t q) (stands_at_cut t q tree cut_q).part in
    let one : Some m.0 ≡ Some s.node_ = sym m.1.there ∙ get-at t q [] ∙ ap (get t) (append-nil q) ∙ node_there t tree c cut apart s in
    let nodes : m.0 ≡ s.node_ = cc in
    record {
      at = refl;
      is = canonical_at t q tree cut_q fits;
      spelled = cat_is t q tree (cut_some t q tree cut_q);
      row = (
        row_at q (at t q) [] m.0,
        (rows_are q (at t q) fits.apart).all [] m.0 m.1,
        root_row q (at t q) m.0,
        same_fields (root_kind q) (kind_of c (at t c) s.rest s.node_) (q ++ []) (c ++ s.rest) m.0 s.node_ r (append-nil q ∙ s.place) nodes s.row,
      );
    }

pub nested_decodes : (t : Nodes) (tree : IsTree t) (fits : Fits t) (c : Path) (cut : is_cut t c ≡ true) (r : Row) (q : Path) → StandsAt c (contents_of t c).rows r q → r.kind ≡ kind.Transition
    → Decodes (record { path = q; row = Some r }) (cat t q) (contents_of t q)
nested_decodes t tree fits c cut r q st is =
    let apart = region_apart t c cut fits.apart in
    let cut_q = transition_cut t tree c cut apart (there t tree c cut apart st) is in
    nested_decodes_at t tree c cut apart r q st is (fits_at_cut t q cut_q fits)

-- bytes decode at a place in one way
pub one_decoding : (place : Place) (bytes : List ℕ) (c d : Contents) → Decodes place bytes c → Decodes place bytes d → c ≡ d
one_decoding place bytes c d is was =
    let parts = one_file _ _ _ _ (has_file c is.is) (has_file d was.is) (sym is.spelled ∙ was.spelled) in
    let at = is.at ∙ sym was.at in
    λ i. record { at = at i; rows = parts.0 i; nested = parts.1 i }
