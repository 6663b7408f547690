use Rattle.std.proofs.Common.{◌∙◌, refl, sym}
use Rattle.cv_tree.specs.Tree.{entries_outside}
use Rattle.cv_tree.proofs.Gathers.{outside-start, outside-taken, outside-left, gathered}
use Rattle.cv_tree.proofs.node_map.NodeMap.outside_with.Goals as goal

pub loop-place-init : goal.loop-place-init
loop-place-init c =
    let given = c.into_iter-place-iterator.ensures.into_iter_gives in
    rw given.0 (outside-start c.args.path.now c.self.inside.nodes.entries c.args.self.now c.args.others c.self.view_is given.5)

pub loop-place-preserved-in_ok-set : goal.loop-place-preserved-in_ok-set
loop-place-preserved-in_ok-set c =
    rw (c.in_ok-set.ensures.ok, c.in_ok-copy.ensures, c.in_ok-copy-2.ensures)
    (outside-taken c.args.path.now c.in-Some.place.now c.in-Some.node.now _ _ _ _ c.in-Some.ensures.steps (sym c.covers.ensures ∙ c.if-not-covers.true) c.loop-place.invariant)

pub loop-place-preserved : goal.loop-place-preserved
loop-place-preserved c =
    outside-left c.args.path.now c.in-Some.place.now c.in-Some.node.now _ _ _ _ c.in-Some.ensures.steps (sym c.covers.ensures ∙ c.if-not-covers.false) c.loop-place.invariant

pub returns : goal.returns
returns c = gathered (entries_outside c.args.path.now) c.loop-place.invariant (rw c.in-None.ensures.steps.0 refl)
