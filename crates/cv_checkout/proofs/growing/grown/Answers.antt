use Rattle.std.proofs.Common.{sym, subst}
use Rattle.std.specs.List.Sorted.{IsPermutation}
use Rattle.cv_checkout.specs.GrowingInner.{KeepLimits}
use Rattle.cv_checkout.specs.Progress.{StartsFrom}
use Rattle.cv_checkout.proofs.Steps.{comes_by, starts_none, starts_some, still_good}
use Rattle.cv_checkout.proofs.growing.grown.Goals.{in-Some, in-None+in_ok-grown-in-None}
use Rattle.cv_checkout.proofs.growing.grown.Goals as goal

pub add_all-requires : goal.add_all-requires
add_all-requires c =
    subst KeepLimits (sym c.deref.ensures.value) (still_good c.in_ok-nodes_toward.field-0.items c.in_order-nodes.result.items c.in_order-nodes.ensures c.in_ok-nodes_toward.ensures.limits)

pub returns : goal.returns
returns c =
    let nodes = c.in_ok-nodes_toward.field-0.items in
    let starts : StartsFrom c.args.catalogue.now c.args.tree c.match-tree.grown = elim c.match-tree.branch [
      | in-Some w ↦ starts_some c.args.catalogue.now c.args.tree _ c.match-tree.grown w.in-Some.is w.grown-is
      | in-None+in_ok-grown-in-None w ↦ starts_none c.args.catalogue.now c.args.tree _ c.match-tree.grown w.in-None.is w.in_ok-grown-in-None.ensures w.grown-is
    ] in
    comes_by c.args.path.now c.args.catalogue.now c.args.tree c.match-tree.grown c.add_all.new.tree nodes c.deref.result.now starts c.in_ok-nodes_toward.ensures.nodes
    (subst (IsPermutation nodes) (sym c.deref.ensures.value) c.in_order-nodes.ensures) c.in_ok-add_all.ensures.grown c.in_ok-add_all.ensures.there
