use Rattle.std.proofs.Common.{refl}
use Rattle.cv_tree.specs.Tree.{entries_under}
use Rattle.cv_tree.proofs.Gathers.{under-start, under-taken, under-there, gathered}
use Rattle.cv_tree.proofs.node_map.NodeMap.under.Goals as goal

pub loop-rest-init : goal.loop-rest-init
loop-rest-init c =
    let given = c.into_iter-rest-iterator.ensures.into_iter_gives in
    (tt, tt, rw (given.0, c.new-moved.ensures) (under-start c.args.path.now c.self.inside.nodes.entries c.args.self c.self.view_is given.5))

pub below-requires : goal.below-requires
below-requires c =
    let there = under-there c.args.path.now c.in-Some.rest c.in-Some.node _ _ _ c.args.self c.in-Some.ensures.steps c.loop-rest.invariant.2 in
    c.requires c.in-Some.rest (rw there refl)

pub loop-rest-preserved : goal.loop-rest-preserved
loop-rest-preserved c =
    (tt, tt, rw (c.in_ok-set.ensures.ok, c.in_ok-below.ensures) (under-taken c.args.path.now c.in-Some.rest c.in-Some.node _ _ _ _ c.in-Some.ensures.steps c.loop-rest.invariant.2))

pub returns : goal.returns
returns c = gathered (entries_under c.args.path.now) c.loop-rest.invariant.2 (rw c.in-None.ensures.steps.0 refl)
