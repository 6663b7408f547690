use Rattle.cv_tree.specs.Tree.{Nodes, IsTree}
use Rattle.cv_cut.specs.Catalogues.{Fits}
use Rattle.cv_resolver.specs.Step.{steps_left}
use Rattle.cv_resolver.specs.Kept.{Kept, AreOwn, kept_bytes}
use Rattle.cv_resolver.specs.Progress.{Leads}
use Rattle.cv_resolver.specs.Stage.{IsStage}
use Rattle.cv_resolver.specs.declared.stage.Stage.{Stage}
use Rattle.cv_resolver.specs.declared.stage.Stage.TheVariants.{Walks}
use Rattle.cv_resolver.proofs.progress.walk_on.Given as goal

abbrev pub invariant-loop-alloc : goal.invariant-loop-alloc
invariant-loop-alloc l = record {
  leads : (after : Kept) (s : Stage) → Leads l.repository l.question l.cache l.walk after s → Leads l.repository l.question l.initial.cache l.fn.walk after s;
  own : (t : Nodes) → AreOwn t (kept_bytes l.initial.cache) → AreOwn t (kept_bytes l.cache);
  stage : (t : Nodes) → IsTree t → Fits t → AreOwn t (kept_bytes l.initial.cache) → IsStage l.repository t l.question (Walks l.fn.walk) → IsStage l.repository t l.question (Walks l.walk);
}

abbrev pub decreases-loop-alloc : goal.decreases-loop-alloc
decreases-loop-alloc l = steps_left l.walk
