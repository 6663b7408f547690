use Rattle.cv_rows.proofs.Standing.{listed_here, not_listed, listed_more}
use Rattle.cv_rows.proofs.nested_list.nested_position.Goals as goal

pub returns-then-eq : goal.returns-then-eq
returns-then-eq c = (c.loop-i-test.true, listed_here c.args.nested.now c.loop-i.i c.index-nested-i.result c.args.path.now c.loop-i-test.true c.index-nested-i.is c.if-eq.ensures)

pub loop-i-preserved : goal.loop-i-preserved
loop-i-preserved c =
    listed_more c.args.nested.now c.loop-i.i c.args.path.now c.loop-i.invariant (not_listed c.args.nested.now c.loop-i.i c.index-nested-i.result c.args.path.now c.loop-i-test.true c.index-nested-i.is c.if-eq.ensures)
