use Rattle.cv_graft.proofs.Crossing.{crossed_none, crossed_more, crossed_all}
use Rattle.cv_graft.proofs.joining.check_keys.Goals as goal

pub loop-row-init : goal.loop-row-init
loop-row-init c = crossed_none c.args.catalogue.now.rows c.args.rows.now

pub loop-row-preserved : goal.loop-row-preserved
loop-row-preserved c =
    crossed_more c.args.catalogue.now.rows c.args.rows.now c.loop-row.row-index c.row-item.result c.loop-row-test.true c.row-item.is c.loop-row.invariant c.in_default.ensures

pub returns-clause-ok : goal.returns-clause-ok
returns-clause-ok c = crossed_all c.args.catalogue.now.rows c.args.rows.now c.loop-row.row-index c.loop-row-test.false c.loop-row.invariant
