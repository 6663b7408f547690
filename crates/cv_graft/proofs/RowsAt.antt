-- The row at a path, and the node for which it stands.
use Rattle.std.proofs.Common.{◌≡◌, ◌≢◌, true, false, cond, [], ◌∷◌, ◌++◌, Some, refl, sym, ap, subst, ◌∙◌}
use Rattle.std.specs.FinMap.{get}
use Rattle.cv_base.specs.Path.{Path}
use Rattle.cv_tree.specs.Tree.{Nodes, IsTree, at, is_directory}
use Rattle.cv_tree.specs.declared.node.Node.{Node}
use Rattle.cv_tree.specs.declared.node.Node.TheVariants as node
use Rattle.cv_rows.specs.Catalogue.{Contents}
use Rattle.cv_rows.specs.Places.{StandsAt}
use Rattle.cv_rows.specs.declared.row.Row.{Row}
use Rattle.cv_rows.specs.declared.row_kind.RowKind.TheVariants.{Directory, Transition}
use Rattle.cv_cut.specs.Cuts.{is_marked}
use Rattle.cv_cut.specs.Catalogues.{rows_of, kind_of, Fits}
use Rattle.cv_graft.specs.Places.{stands_for_directory}
use Rattle.cv_graft.proofs.Finding.{directory_node}
use Rattle.cv_cut.specs.Catalogues.{contents_of}
use Rattle.cv_cut.specs.Above.{Holds}
use Rattle.cv_cut.specs.Region.{row_at, IsNear}
use Rattle.cv_tree.proofs.Laws.{get-at}
use Rattle.cv_cut.proofs.Lemmas.{region_apart, row_kind, stands, stands_only, stands_at_cut, same_rest, rows_are}

-- ---- nodes

kind_directory : (c : Path) (u : Nodes) (q : Path) (n : Node) → q ≢ [] → stands_for_directory (kind_of c u q n) ≡ is_directory (Some n)
kind_directory c u [] n some = absurd (some refl)
kind_directory c u (a ∷ q) (node.Dir attr) some = elim (is_marked u (a ∷ q)) as (λ b. stands_for_directory (cond b Transition Directory) ≡ true) [ true ↦ refl | false ↦ refl ]
kind_directory c u (a ∷ q) (node.File attr file) some = refl
kind_directory c u (a ∷ q) (node.Link attr target) some = refl

-- the row at the path says whether the path is a directory of the tree
pub row_tells : (t : Nodes) (p c r : Path) (k : Contents) (row : Row) → IsTree t → Fits t → Holds t p c r → k ≡ contents_of t c → StandsAt k.at k.rows row p → stands_for_directory row.kind ≡ is_directory (get t p)
row_tells t p c r k row tree fits h is s =
    let keys = region_apart t c h.cut fits.apart in
    let own : StandsAt c (rows_of c (at t c)) row p = subst (λ (x : Contents). StandsAt x.at x.rows row p) is s in
    let w = stands_only c (at t c) (rows_of c (at t c)) (stands_at_cut t c tree h.cut).part keys (rows_are c (at t c) keys) own in
    let rest : w.rest ≡ r = same_rest c w.rest r (sym w.place ∙ h.is) in
    let there : get t p ≡ Some w.node_ = ap (get t) w.place ∙ sym (get-at t c w.rest) ∙ w.there.there in
    ap (λ (x : Row). stands_for_directory x.kind) w.row ∙ ap stands_for_directory (row_kind _ (c ++ w.rest) w.node_)
    ∙ kind_directory c (at t c) w.rest w.node_ (λ none. h.some (sym rest ∙ none)) ∙ ap is_directory (sym there)

-- where none stands there, it is none
pub none_tells : (t : Nodes) (p c r : Path) (k : Contents) → IsTree t → Fits t → Holds t p c r → k ≡ contents_of t c → ((row : Row) → StandsAt k.at k.rows row p → ⊥) → false ≡ is_directory (get t p)
none_tells t p c r k tree fits h is none =
    elim (is_directory (get t p)) as (λ b. is_directory (get t p) ≡ b → false ≡ b) [
      | true ↦ λ e.
          let n = directory_node (get t p) e in
          let keys = region_apart t c h.cut fits.apart in
          let near : IsNear (at t c) r n.0 = record { there = get-at t c r ∙ ap (get t) (sym h.is) ∙ n.1; near = h.near } in
          let s = stands c (at t c) (rows_of c (at t c)) (stands_at_cut t c tree h.cut).part keys (rows_are c (at t c) keys) r n.0 near in
          absurd (none (row_at c (at t c) r n.0) (subst (λ (x : Contents). StandsAt x.at x.rows (row_at c (at t c) r n.0) p) (sym is) (subst (λ (x : Path). StandsAt c (rows_of c (at t c)) (row_at c (at t c) r n.0) x) (sym h.is) s)))
      | false ↦ λ e. refl
    ] refl
