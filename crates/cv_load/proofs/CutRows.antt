-- What the rows and nested entries of a cut say of its region.
use Rattle.std.proofs.Common.{◌≡◌, ℕ, Bool, true, false, ◌&&◌, List, [], ◌∷◌, ◌++◌, length, Some, IsTrue, refl, sym, ap, subst, ◌∙◌, arith}
use Rattle.std.specs.Prelude.{Contains}
use Rattle.std.specs.declared.option.Option.{Option}
use Rattle.std.specs.FinMap.{get}
use Rattle.std.proofs.lemmas.List.{append_cancel_left}
use Rattle.std.proofs.lemmas.List.Elements.{All-contains}
use Rattle.sha1.specs.Sha1.{sha1}
use Rattle.cv_base.specs.Path.{Path}
use Rattle.cv_base.specs.Marker.{marker}
use Rattle.cv_tree.specs.Node.{IsNode}
use Rattle.cv_tree.specs.Tree.{Nodes, is_directory, is_file}
use Rattle.cv_tree.specs.declared.node.Node.{Node}
use Rattle.cv_tree.specs.declared.node.Node.TheVariants.{Dir, File, Link}
use Rattle.cv_rows.specs.Catalogue.{Contents, IsCatalogue, IsListed}
use Rattle.cv_rows.specs.Places.{StandsAt}
use Rattle.cv_rows.specs.declared.row.Row.{Row}
use Rattle.cv_rows.specs.declared.nested.Nested.{Nested}
use Rattle.cv_rows.specs.declared.row_kind.RowKind.{RowKind}
use Rattle.cv_rows.specs.declared.row_kind.RowKind.TheVariants as kind
use Rattle.cv_rows.proofs.Lemmas.{stands_contained, one_place}
use Rattle.cv_cut.specs.Cuts.{is_inner}
use Rattle.cv_cut.specs.Catalogues.{kind_of, row_of, rows_of, nested_of}
use Rattle.cv_cut.proofs.Lemmas.{row_kind, transition_marked, marked_transition}
use Rattle.cv_cut.specs.Region.{IsNear, row_at, AreRowsOf, AreEntriesOf}

-- ---- single rows

-- rows that are equal are those of one node
same_node : (k l : RowKind) (p q : Path) (a b : Node) → IsNode a → IsNode b → row_of k p a ≡ row_of l q b → a ≡ b
same_node k l p q (Dir attr) (Dir other) good fine e = ap (λ (r : Row). Dir r.attr) e
same_node k l p q (Dir attr) (File other file) good fine e = absurd (let hash = ap (λ (r : Row). r.hash) e in cc)
same_node k l p q (Dir attr) (Link other target) good fine e = absurd (let none = ap (λ (r : Row). length r.target) e in let some = fine.1.some in omega (arith, none, some))
same_node k l p q (File attr file) (Dir other) good fine e = absurd (let hash = ap (λ (r : Row). r.hash) e in cc)
same_node k l p q (File attr file) (File other content) good fine e =
    let hash : file.hash ≡ content.hash = (let some = ap (λ (r : Row). r.hash) e in cc) in
    λ i. File (e i).attr (record { hash = hash i; size = (e i).size })
same_node k l p q (File attr file) (Link other target) good fine e = absurd (let hash = ap (λ (r : Row). r.hash) e in cc)
same_node k l p q (Link attr target) (Dir other) good fine e = absurd (let none = ap (λ (r : Row). length r.target) e in let some = good.1.some in omega (arith, none, some))
same_node k l p q (Link attr target) (File other file) good fine e = absurd (let hash = ap (λ (r : Row). r.hash) e in cc)
same_node k l p q (Link attr target) (Link other text) good fine e = λ i. Link (e i).attr (e i).target

-- ---- Transition rows are those of the other cuts

directory_if_marked : (o : Option Node) (node : Node) (b : Bool) → o ≡ Some node → (is_directory o && b) ≡ true → is_directory (Some node) ≡ true
directory_if_marked o node b e h = elim (is_directory o) as (λ t. is_directory o ≡ t → (t && b) ≡ true → is_directory (Some node) ≡ true) [
  | true ↦ λ is _. ap is_directory (sym e) ∙ is
  | false ↦ λ _ impossible. absurd cc
] refl h

pub transition_of_inner : (c : Path) (u : Nodes) (d : Path) (node : Node) → IsNear u d node → IsTrue (is_inner u d) → kind_of c u d node ≡ kind.Transition
transition_of_inner c u [] node near h = absurd cc
transition_of_inner c u (a ∷ p) node near h =
    marked_transition c u (a ∷ p) node (λ e. cc) (directory_if_marked (get u (a ∷ p)) node (is_file (get u ((a ∷ p) ++ marker ∷ []))) near.there h) h

pub inner_of_transition : (c : Path) (u : Nodes) (d : Path) (node : Node) → kind_of c u d node ≡ kind.Transition → IsTrue (is_inner u d)
inner_of_transition c u [] node h = absurd ((transition_marked c u [] node h).0 refl)
inner_of_transition c u (a ∷ p) node h = (transition_marked c u (a ∷ p) node h).1

-- ---- two cuts at one place

abbrev pub contents_at : Path → Nodes → (Path → List ℕ) → Contents
contents_at c u file = record { at = c; rows = rows_of c u; nested = nested_of c u file }

-- the cut's catalogue keeps its rules, and has the rows and entries of its region, each row at its path
pub record IsKept (c : Path) (u : Nodes) (file : Path → List ℕ) : Type 0 where
  pub catalogue : IsCatalogue (contents_at c u file)
  pub rows : AreRowsOf c u (rows_of c u)
  pub entries : AreEntriesOf c u file (nested_of c u file)
  pub stands : (q : Path) (node : Node) → IsNear u q node → StandsAt c (rows_of c u) (row_at c u q node) (c ++ q)
  pub limits : (q : Path) (node : Node) → get u q ≡ Some node → IsNode node

-- a path of the one region is a path of the other, with a row of the same kind
pub record IsShared (c : Path) (u v : Nodes) (q : Path) (node : Node) : Type 0 where
  pub near : IsNear v q node
  pub kind : kind_of c u q node ≡ kind_of c v q node

pub shared : (c : Path) (u v : Nodes) (f g : Path → List ℕ) → IsKept c u f → IsKept c v g → rows_of c u ≡ rows_of c v → (q : Path) (node : Node) → IsNear u q node → IsShared c u v q node
shared c u v f g kept held same q node near =
    let s : StandsAt c (rows_of c v) (row_at c u q node) (c ++ q) = subst (λ (rows : List Row). StandsAt c rows (row_at c u q node) (c ++ q)) same (kept.stands q node near) in
    let from = held.rows.each (row_at c u q node) (stands_contained s) in
    let own = subst (λ (r : Row). StandsAt c (rows_of c v) r (c ++ from.0)) (sym from.3) (held.stands from.0 from.1 from.2) in
    let path : from.0 ≡ q = append_cancel_left c from.0 q (one_place held.catalogue.ordered own s) in
    let is : from.1 ≡ node = same_node _ _ _ _ from.1 node (held.limits from.0 from.1 from.2.there) (kept.limits q node near.there) (sym from.3) in
    record {
      near = subst (λ (p : Path). IsNear v p node) path (subst (IsNear v from.0) is from.2);
      kind =
          sym (row_kind (kind_of c u q node) (c ++ q) node) ∙ ap (λ (r : Row). r.kind) from.3 ∙ row_kind (kind_of c v from.0 from.1) (c ++ from.0) from.1
          ∙ (λ i. kind_of c v (path i) (is i));
    }

-- another cut of both has catalogues of one hash
pub one_hash : (c : Path) (u v : Nodes) (f g : Path → List ℕ) → IsKept c u f → IsKept c v g → nested_of c u f ≡ nested_of c v g → (d : Path) (node : Node) → IsNear u d node → IsTrue (is_inner u d) → sha1 (f d) ≡ sha1 (g d)
one_hash c u v f g kept held nested d node near is =
    let r = row_at c u d node in
    let s = kept.stands d node near in
    let listed : IsListed c (rows_of c u) (nested_of c u f) r = All-contains (IsListed c (rows_of c u) (nested_of c u f)) (rows_of c u) r kept.catalogue.region.listed (stands_contained s) in
    let l = listed (row_kind (kind_of c u d node) (c ++ d) node ∙ transition_of_inner c u d node near is) in
    let place : l.0.path ≡ c ++ d = one_place kept.catalogue.ordered l.2 s in
    let one = kept.entries.each l.0 l.1 in
    let other = held.entries.each l.0 (subst (λ (ns : List Nested). Contains ns l.0) nested l.1) in
    let first : one.0 ≡ d = append_cancel_left c one.0 d (sym (ap (λ (n : Nested). n.path) one.2) ∙ place) in
    let second : other.0 ≡ d = append_cancel_left c other.0 d (sym (ap (λ (n : Nested). n.path) other.2) ∙ place) in
    let hash : l.0.hash ≡ sha1 (f one.0) = ap (λ (n : Nested). n.hash) one.2 in
    let same : l.0.hash ≡ sha1 (g other.0) = ap (λ (n : Nested). n.hash) other.2 in
    sym (subst (λ (p : Path). l.0.hash ≡ sha1 (f p)) first hash) ∙ subst (λ (p : Path). l.0.hash ≡ sha1 (g p)) second same
