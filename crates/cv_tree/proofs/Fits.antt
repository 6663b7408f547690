-- Parts that fit at a path of a tree.
use Rattle.std.proofs.Common.{◌≡◌, true, false, cond, ◌++◌, IsSome, is_some, refl, sym, subst}
use Rattle.std.specs.Ordering.{eq_by_cmp}
use Rattle.std.specs.Prelude.{IfSome}
use Rattle.std.specs.declared.option.Option.{Option}
use Rattle.std.specs.declared.option.Option.TheVariants.{None, Some}
use Rattle.std.specs.FinMap.{empty, insert, get, get-insert}
use Rattle.cv_base.specs.Path.{Path, path_cmp, IsPath}
use Rattle.cv_base.proofs.Laws.{path_total, same_path_is}
use Rattle.cv_tree.specs.declared.node.Node.{Node}
use Rattle.cv_tree.specs.Tree.{Nodes, IsTree, at}
use Rattle.cv_tree.specs.Changes.{nodes_of, subtree_of, FitsUnder}
use Rattle.cv_tree.proofs.Replacements.{get-at}
use Rattle.cv_tree.proofs.Shapes.{nothing_at}

-- nothing fits everywhere
pub FitsUnder-empty : (p : Path) → FitsUnder p empty
FitsUnder-empty p q some = absurd (nothing_at q some)

pub FitsUnder-nodes_of : (p : Path) (part : Option Nodes) → IfSome part (FitsUnder p) → FitsUnder p (nodes_of part)
FitsUnder-nodes_of p None fits = FitsUnder-empty p
FitsUnder-nodes_of p (Some s) fits = fits

-- what stands at a path fits there
pub FitsUnder-subtree_of : (t : Nodes) (p : Path) → IsTree t → IfSome (subtree_of t p) (FitsUnder p)
FitsUnder-subtree_of t p h =
    elim (is_some (get t p)) as (λ b. IfSome (cond b (Some (at t p)) None) (FitsUnder p)) [
      | true ↦ λ q some. h.part.paths (p ++ q) (rw (get-at t p q) at some)
      | false ↦ tt
    ]

-- a part that fits fits with one more node whose path keeps its limits there
pub FitsUnder-insert : (p : Path) (s : Nodes) (q : Path) (node : Node) → FitsUnder p s → IsPath (p ++ q) → FitsUnder p (insert s q node)
FitsUnder-insert p s q node fits path r some =
    elim (eq_by_cmp path_cmp r q) as (λ b. eq_by_cmp path_cmp r q ≡ b → IsSome (cond b (Some node) (get s r)) → IsPath (p ++ r)) [
      | true ↦ λ same _. subst (λ (x : Path). IsPath (p ++ x)) (sym (same_path_is r q same)) path
      | false ↦ λ _ there. fits r there
    ] refl (rw (get-insert path_total s q node r) at some)
