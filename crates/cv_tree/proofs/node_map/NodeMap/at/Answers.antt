use Rattle.std.proofs.Common.{◌∙◌, refl, sym}
use Rattle.cv_tree.specs.Tree.{entries_behind}
use Rattle.cv_tree.proofs.Gathers.{behind-start, behind-taken, behind-ended, gathered}
use Rattle.cv_tree.proofs.node_map.NodeMap.at.Goals as goal
use Rattle.cv_tree.proofs.node_map.NodeMap.at.Goals.{in-None, in-Some+in_ok-rest+in_default}

pub loop-place-init : goal.loop-place-init
loop-place-init c =
    rw c.new-found.ensures (behind-start c.args.path.now c.self.inside.nodes.entries _ c.args.self.now c.self.view_is c.range-place-items.ensures.ordered
    (c.into_iter-place-iterator.ensures.into_iter_gives ∙ c.range-place-items.ensures.between tt))

pub loop-place-preserved : goal.loop-place-preserved
loop-place-preserved c =
    rw (c.in_ok-set.ensures.ok, c.in_ok-copy.ensures) (behind-taken c.args.path.now c.in-Some.place.now c.in-Some-2.rest c.in-Some.node.now _ _ _ _ c.in-Some.ensures.steps (sym c.in-Some-2.is ∙ c.in_ok-rest.ensures) c.loop-place.invariant)

pub returns : goal.returns
returns c = elim c.match-next.branch [
  | in-None w ↦ gathered (entries_behind c.args.path.now) c.loop-place.invariant.gathers (rw w.in-None.ensures.steps.0 refl)
  | in-Some+in_ok-rest+in_default w ↦
      behind-ended c.args.path.now w.in-Some.place.now w.in-Some.node.now _ _ _ _ w.in-Some.ensures.steps (sym w.in_default.is ∙ w.in_ok-rest.ensures) c.loop-place.invariant
]
