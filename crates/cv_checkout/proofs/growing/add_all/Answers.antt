use Rattle.std.proofs.Common.{◌+◌, sym, ap, subst, ◌∙◌}
use Rattle.std.specs.FinMap.{insert}
use Rattle.cv_tree.specs.Node.{IsNode}
use Rattle.cv_tree.specs.Tree.{Nodes}
use Rattle.cv_tree.specs.declared.node.Node.{Node}
use Rattle.cv_checkout.proofs.Steps.{Adds, absent, adds_one, adds_there, present}
use Rattle.cv_checkout.proofs.growing.add_all.Goals.{then-is_none+in_ok-node+in-Ok, else-is_none}
use Rattle.cv_checkout.proofs.growing.add_all.Goals as goal

pub insert-requires : goal.insert-requires
insert-requires c = subst IsNode (sym c.in_ok-node.ensures) (c.requires c.loop-path-item.result (c.loop-path.path-index, c.loop-path-test.true, sym c.loop-path-item.is))

pub loop-path-preserved : goal.loop-path-preserved
loop-path-preserved c =
    let e = c.loop-path-item.result in
    elim c.if-is_none.branch [
      | then-is_none+in_ok-node+in-Ok w ↦
          adds_one c.args.nodes.now c.args.tree.now c.loop-path.tree c.loop-path.path-index e c.loop-path-test.true c.loop-path-item.is c.loop-path.invariant c.if-is_none.tree
          (absent c.get.result _ c.is_none.result c.get.ensures.value c.is_none.ensures w.if-is_none.true)
          (w.tree-is ∙ w.in-Ok.ensures.ok ∙ ap (λ (n : Node). insert c.loop-path.tree e.0 n) w.in_ok-node.ensures)
      | else-is_none w ↦
          subst (λ (u : Nodes). Adds c.args.nodes.now c.args.tree.now u (c.loop-path.path-index + 1)) (sym w.tree-is)
          (adds_there c.args.nodes.now c.args.tree.now c.loop-path.tree c.loop-path.path-index e c.loop-path-test.true c.loop-path-item.is c.loop-path.invariant
          (present c.get.result _ c.is_none.result c.get.ensures.value c.is_none.ensures w.if-is_none.false))
    ]
