-- The regions of a tree that all rows of reached catalogues make.
use Rattle.std.proofs.Common.{◌≡◌, ◌≢◌, ℕ, zero, suc, ◌≤◌, true, false, List, [], ◌∷◌, ◌++◌, length, Some, refl, sym, ap, subst, ◌∙◌, arith, append-nil, append_assoc, length-append}
use Rattle.std.specs.Prelude.{Contains}
use Rattle.std.specs.FinMap.{get}
use Rattle.std.proofs.lemmas.List.{append_cancel_left}
use Rattle.std.proofs.lemmas.List.Elements.{All-contains}
use Rattle.cv_base.specs.Path.{Path}
use Rattle.cv_base.proofs.Laws.{last_same}
use Rattle.cv_ports.specs.Shelf.{Shelf}
use Rattle.cv_tree.specs.Tree.{Nodes, at, is_directory}
use Rattle.cv_tree.specs.declared.node.Node.{Node}
use Rattle.cv_tree.proofs.Laws.{get-at}
use Rattle.cv_rows.specs.Row.{holds_rows}
use Rattle.cv_rows.specs.Catalogue.{Contents, IsListed}
use Rattle.cv_rows.specs.Places.{StandsAt, root, below}
use Rattle.cv_rows.specs.declared.row.Row.{Row}
use Rattle.cv_rows.specs.declared.nested.Nested.{Nested}
use Rattle.cv_rows.specs.declared.row_kind.RowKind.{RowKind}
use Rattle.cv_rows.specs.declared.row_kind.RowKind.TheVariants.{Directory, Transition, NestedRoot, File, Link}
use Rattle.cv_rows.proofs.Lemmas.{stands_contained, one_place}
use Rattle.cv_cut.specs.Reached.{Place, ReachesCatalogue, nested}
use Rattle.cv_cut.specs.Cuts.{is_marked, is_near}
use Rattle.cv_cut.specs.Told.{node_of, node_as}
use Rattle.cv_tree.specs.Tree.{IsPart}
use Rattle.cv_cut.proofs.Lemmas.{some_last, near_below, above, marked-at, transition_long}
use Rattle.cv_load.proofs.Assembly.{IsWhole, full_of, standing_of, node_there, open_marked, directory_unmarked}
use Rattle.cv_load.proofs.Standing.{named_by, IsOpen, Standing, Holds, AreTogether, so_root, so_below, stands_so, rules_of, contents_same, one_holder, one_node, moved, not_empty, parent_standing}
use Rattle.cv_cut.specs.Region.{IsNear}

holder_kind : (k : RowKind) → holds_rows k ≡ true → k ≢ NestedRoot → k ≡ Directory
holder_kind Directory h other = refl
holder_kind Transition h other = absurd cc
holder_kind NestedRoot h other = absurd (other refl)
holder_kind File h other = absurd cc
holder_kind Link h other = absurd cc

directory_holds : (r : Row) → is_directory (Some (node_of r)) ≡ true → r.kind ≢ Transition → holds_rows r.kind ≡ true
directory_holds r = go r.kind
  where
    go : (k : RowKind) → is_directory (Some (node_as k r)) ≡ true → k ≢ Transition → holds_rows k ≡ true
    go Directory h other = refl
    go Transition h other = absurd (other refl)
    go NestedRoot h other = refl
    go File h other = absurd cc
    go Link h other = absurd cc

rest_none : (p s : Path) → p ++ s ≡ p → s ≡ []
rest_none p s h = append_cancel_left p s [] (h ∙ sym (append-nil p))

-- a row stands near its catalogue's place
pub record IsNearBy (t : Nodes) (p q : Path) : Type 0 where
  pub rest : Path
  pub is : q ≡ p ++ rest
  pub near : is_near (at t p) rest ≡ true

-- the row of a path near the place
pub record HasRow (c : Contents) (s : Path) (n : Node) : Type 0 where
  pub row : Row
  pub stands : StandsAt c.at c.rows row (c.at ++ s)
  pub is : n ≡ node_of row

module _ {shelf : Shelf} {top : List ℕ} {t : Nodes} (whole : IsWhole shelf top t) where
  pub near_by : {hash : List ℕ} {place : Place} {c : Contents} → IsOpen shelf top hash place c → {r : Row} {q : Path} → StandsAt c.at c.rows r q → IsNearBy t c.at q
  near_by {c = c} o (root has is) = record { rest = []; is = sym (append-nil c.at); near = refl }
  near_by {hash} {place} {c} o {r} (below {p = p} {q = q} has other s child) =
      let up = near_by o s in
      let free : up.rest ≢ [] → is_marked (at t c.at) up.rest ≡ false = λ some. elim (stands_so s) [
        | so_root has_p is_p at_p ↦ absurd (some (rest_none c.at up.rest (sym up.is ∙ at_p)))
        | so_below over front has_p away rise kid way ↦
            sym (marked-at t c.at up.rest) ∙ ap (is_marked t) (sym up.is) ∙ directory_unmarked whole q (record { hash = hash; place = place; contents = c; open_ = o; row = p; stands = s }) (holder_kind p.kind child.holds kid.kind) away
      ] in
      record { rest = up.rest ++ r.name ∷ []; is = ap (λ (w : Path). w ++ r.name ∷ []) up.is ∙ append_assoc c.at up.rest (r.name ∷ []); near = near_below (at t c.at) up.rest r.name up.near free }

  -- a Transition row names a catalogue that is reached
  pub record NamesOpen {q : Path} (s : Standing shelf top q) : Type 0 where
    pub entry : Nested
    pub has : Contains s.contents.nested entry
    pub path : entry.path ≡ q
    pub reached : ReachesCatalogue shelf top entry.hash (record { path = entry.path; row = Some s.row })

  pub names_open : (q : Path) (s : Standing shelf top q) → s.row.kind ≡ Transition → NamesOpen s
  names_open q s kind =
      let rules = rules_of s.open_ in
      let l = All-contains (IsListed s.contents.at s.contents.rows s.contents.nested) s.contents.rows s.row rules.region.listed (stands_contained s.stands) kind in
      record { entry = l.0; has = l.1; path = one_place rules.ordered l.2 s.stands; reached = nested s.open_.reached s.open_.has l.1 kind l.2 }

  -- it stands at a marked directory
  pub transition_marked : (q : Path) (s : Standing shelf top q) → s.row.kind ≡ Transition → is_marked t q ≡ true
  transition_marked q s kind =
      let n = names_open q s kind in
      let f = full_of whole n.reached in
      let o : IsOpen shelf top n.entry.hash (record { path = n.entry.path; row = Some s.row }) f.contents = record { reached = n.reached; has = f.has } in
      let same : f.contents.at ≡ q = f.has.decodes.at ∙ n.path in
      let long = transition_long s.stands kind in
      subst (λ (p : Path). is_marked t p ≡ true) same (open_marked whole o (λ none. let size = ap (λ (p : Path). length p) (sym same ∙ none) in omega (arith, long, size)))

  root_not_transition : {hash : List ℕ} {place : Place} {c : Contents} → IsOpen shelf top hash place c → (r : Row) → StandsAt c.at c.rows r c.at → r.kind ≢ Transition
  root_not_transition o r s kind = let long = transition_long s kind in omega (arith, long)

  row_near_from : {hash : List ℕ} {place : Place} {c : Contents} → IsOpen shelf top hash place c → IsPart (at t c.at) → (k : ℕ) (s : Path) (n : Node) → length s ≤ k → IsNear (at t c.at) s n → HasRow c s n
  row_near_from {hash} {place} {c} o part k [] n short near =
      let r = (rules_of o).region.root in
      let stands : StandsAt c.at c.rows r.0 c.at = root r.1 r.2 in
      let there = node_there whole c.at (record { hash = hash; place = place; contents = c; open_ = o; row = r.0; stands = stands }) in
      let e : Some n ≡ Some (node_of r.0) = sym near.there ∙ get-at t c.at [] ∙ ap (get t) (append-nil c.at) ∙ there in
      record { row = r.0; stands = subst (StandsAt c.at c.rows r.0) (sym (append-nil c.at)) stands; is = cc }
  row_near_from o part zero (b ∷ s) n short near = absurd (omega arith)
  row_near_from {hash} {place} {c} o part (suc k) (b ∷ s) n short near =
      let l = some_last (b ∷ s) (λ e. cc) in
      let has : IsNear (at t c.at) (l.front ++ l.name ∷ []) n = subst (λ (p : Path). IsNear (at t c.at) p n) l.is near in
      let a = above (at t c.at) part l.front l.name n has in
      let p = row_near_from o part k l.front a.node_ (omega (arith, ap length l.is, length-append l.front (l.name ∷ []), short)) a.there in
      let here : Standing shelf top (c.at ++ l.front) = record { hash = hash; place = place; contents = c; open_ = o; row = p.row; stands = p.stands } in
      let not_named : p.row.kind ≢ Transition = λ kind.
      let some : l.front ≢ [] = λ none. root_not_transition o p.row (subst (StandsAt c.at c.rows p.row) (ap (λ (x : Path). c.at ++ x) none ∙ append-nil c.at) p.stands) kind in
      let wrong : true ≡ false = sym (transition_marked (c.at ++ l.front) here kind) ∙ marked-at t c.at l.front ∙ a.free some in
      cc in
      let holds = directory_holds p.row (ap (λ (x : Node). is_directory (Some x)) (sym p.is) ∙ a.directory) not_named in
      let path = sym (append_assoc c.at l.front (l.name ∷ [])) in
      let there : get t ((c.at ++ l.front) ++ l.name ∷ []) ≡ Some n = ap (get t) (sym path) ∙ sym (get-at t c.at (l.front ++ l.name ∷ [])) ∙ has.there in
      let found = standing_of whole ((c.at ++ l.front) ++ l.name ∷ []) n there in
      let row = row_below (c.at ++ l.front) l.name here holds found.0 in
      record {
        row = row.0;
        stands = subst (StandsAt c.at c.rows row.0) (sym path ∙ ap (λ (x : Path). c.at ++ x) (sym l.is)) row.1;
        is = found.1 ∙ row.2;
      }
    where
      -- a node below a row has a row in the same catalogue
      row_below : (q : Path) (name : List ℕ) (s : Standing shelf top q) → Holds s → (f : Standing shelf top (q ++ name ∷ [])) → (r : Row) × StandsAt s.contents.at s.contents.rows r (q ++ name ∷ []) × (node_of f.row ≡ node_of r)
      row_below q name s holds f = elim (stands_so f.stands) [
        | so_root has_f is_f at_f ↦
            let m = named_by f at_f (not_empty q name) in
            let ends = last_same m.above q m.row.row.name name (sym m.path) in
            let up = moved m.above q ends.0 m.parent in
            let t = one_holder up s m.holds holds in
            let rows : AreTogether m.row s = record { hash = m.together.hash ∙ t.hash; place = m.together.place ∙ t.place } in
            (m.row.row, subst (λ (c : Contents). StandsAt c.at c.rows m.row.row (q ++ name ∷ [])) (contents_same m.row s rows) m.row.stands, one_node f m.row)
        | so_below p front has_f away up child way ↦
            let ends = last_same front q f.row.name name (sym way) in
            let over = moved front q ends.0 (parent_standing f.open_ p front up) in
            let t = one_holder over s child.holds holds in
            (f.row, subst (λ (c : Contents). StandsAt c.at c.rows f.row (q ++ name ∷ [])) (contents_same over s t) f.stands, refl)
      ]

  -- a path near a reached catalogue's place has a row there
  pub row_near : {hash : List ℕ} {place : Place} {c : Contents} → IsOpen shelf top hash place c → IsPart (at t c.at) → (s : Path) (n : Node) → IsNear (at t c.at) s n → HasRow c s n
  row_near o part s n near = row_near_from o part (length s) s n (omega arith) near
