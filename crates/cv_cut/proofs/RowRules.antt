-- The row of a path keeps the limits of a row.
use Rattle.std.proofs.Common.{◌≡◌, ℕ, true, false, cond, ◌&&◌, Some, nat_le, List, [], ◌∷◌, ◌++◌, length, refl, sym, ap, ◌∙◌}
use Rattle.std.specs.List.{list_all}
use Rattle.std.proofs.lemmas.Bool.{le-leb}
use Rattle.std.proofs.lemmas.Slice.Eq.{bytes_eq-Decides}
use Rattle.std.specs.Str.{is_utf8}
use Rattle.cv_base.specs.Path.{Path, IsPath, is_path_name, no_key, parent_key_of, last_name_of}
use Rattle.cv_base.proofs.Laws.{first_true, second_true, all_last}
use Rattle.cv_tree.specs.Node.{IsNode}
use Rattle.cv_tree.specs.Tree.{Nodes, is_directory}
use Rattle.cv_tree.specs.declared.node.Node.{Node}
use Rattle.cv_tree.specs.declared.node.Node.TheVariants as node
use Rattle.cv_rows.specs.Row.{IsRow, is_row_name}
use Rattle.cv_rows.specs.declared.row_kind.RowKind.{RowKind}
use Rattle.cv_rows.specs.declared.row_kind.RowKind.TheVariants.{Directory, Transition, NestedRoot, File, Link}
use Rattle.cv_cut.specs.Cuts.{is_marked}
use Rattle.cv_cut.specs.Catalogues.{kind_of, row_of}
use Rattle.cv_cut.proofs.Ends.{some_last, last_name-append}
use Rattle.cv_cut.proofs.Keys.{key_is, parent_is}

name_here : (parent name : List ℕ) → is_path_name name ≡ true → is_row_name parent name ≡ true
name_here parent [] h =
    let four = first_true (is_utf8 [] && false && true && true) true h in
    let three = first_true (is_utf8 [] && false && true) true four in
    let two = first_true (is_utf8 [] && false) true three in
    let some : false ≡ true = second_true (is_utf8 []) false two in
    cc
name_here parent (b ∷ name) h = h

-- the last name of a path is the name of a row
pub named : (p : Path) → IsPath p → is_row_name (parent_key_of p) (last_name_of p) ≡ true
named [] path = (bytes_eq-Decides no_key no_key).1 refl
named (a ∷ p) path =
    let l = some_last (a ∷ p) (λ e. cc) in
    let whole : list_all is_path_name (l.front ++ l.name ∷ []) ≡ true = ap (list_all is_path_name) (sym l.is) ∙ path.names in
    name_here (parent_key_of (a ∷ p)) (last_name_of (a ∷ p)) (ap is_path_name (ap last_name_of l.is ∙ last_name-append l.front l.name) ∙ all_last l.front l.name whole)

-- the kinds that the row of a node may have
abbrev pub Suits : RowKind → Node → Type 0
Suits Directory n = is_directory (Some n) ≡ true
Suits Transition n = is_directory (Some n) ≡ true
Suits NestedRoot n = is_directory (Some n) ≡ true
Suits File (node.Dir attr) = ⊥
Suits File (node.File attr file) = Unit {0}
Suits File (node.Link attr target) = ⊥
Suits Link (node.Dir attr) = ⊥
Suits Link (node.File attr file) = ⊥
Suits Link (node.Link attr target) = Unit {0}

pub suits : (c : Path) (u : Nodes) (q : Path) (n : Node) → (q ≡ [] → is_directory (Some n) ≡ true) → Suits (kind_of c u q n) n
suits [] u [] n directory = directory refl
suits (a ∷ c) u [] n directory = directory refl
suits c u (a ∷ q) (node.Dir attr) directory = elim (is_marked u (a ∷ q)) as (λ b. Suits (cond b Transition Directory) (node.Dir attr)) [ true ↦ refl | false ↦ refl ]
suits c u (a ∷ q) (node.File attr file) directory = tt
suits c u (a ∷ q) (node.Link attr target) directory = tt

pub row_keeps : (kind : RowKind) (p : Path) (n : Node) → IsPath p → IsNode n → Suits kind n → IsRow (row_of kind p n)
row_keeps Directory p (node.Dir attr) path good suit = record { key = key_is p; parent = parent_is p; attr = good; content = (refl, refl, refl); name = named p path }
row_keeps Transition p (node.Dir attr) path good suit = record { key = key_is p; parent = parent_is p; attr = good; content = (refl, refl, refl); name = named p path }
row_keeps NestedRoot p (node.Dir attr) path good suit = record { key = key_is p; parent = parent_is p; attr = good; content = (refl, refl, refl); name = named p path }
row_keeps File p (node.Dir attr) path good suit = absurd suit
row_keeps Link p (node.Dir attr) path good suit = absurd suit
row_keeps Directory p (node.File attr file) path good suit = cc
row_keeps Transition p (node.File attr file) path good suit = cc
row_keeps NestedRoot p (node.File attr file) path good suit = cc
row_keeps File p (node.File attr file) path good suit = record { key = key_is p; parent = parent_is p; attr = good.0; content = (good.1.size, good.1.hash, refl); name = named p path }
row_keeps Link p (node.File attr file) path good suit = absurd suit
row_keeps Directory p (node.Link attr target) path good suit = cc
row_keeps Transition p (node.Link attr target) path good suit = cc
row_keeps NestedRoot p (node.Link attr target) path good suit = cc
row_keeps File p (node.Link attr target) path good suit = absurd suit
row_keeps Link p (node.Link attr target) path good suit = record {
  key = key_is p;
  parent = parent_is p;
  attr = good.0;
  content = (refl, refl, (let some : nat_le 1 (length target) ≡ true = le-leb _ _ good.1.some in rw (some, good.1.text) refl));
  name = named p path;
}
