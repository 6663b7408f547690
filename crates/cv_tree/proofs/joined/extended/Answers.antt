use Rattle.cv_tree.proofs.PathLimits.{joined-next}
use Rattle.cv_tree.proofs.joined.extended.Goals as goal

pub loop-name-preserved : goal.loop-name-preserved
loop-name-preserved c =
    joined-next c.args.start c.args.names.now c.loop-name.path c.loop-name.name-index c.name-item.result c.in-Ok.longer
    c.loop-name.invariant c.loop-name-test.true c.name-item.is (rw (← c.as_str.ensures) c.in-Ok.ensures)
