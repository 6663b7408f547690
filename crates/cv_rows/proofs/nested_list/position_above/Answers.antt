use Rattle.cv_rows.proofs.Listing.{none_above, above_here, not_above_here, none_at_all}
use Rattle.cv_rows.proofs.nested_list.position_above.Goals as goal

pub returns-then-is_above : goal.returns-then-is_above
returns-then-is_above c = (c.loop-i-test.true, above_here c.args.nested.now c.loop-i.i c.index-nested-i.result c.args.path.now c.loop-i-test.true c.index-nested-i.is c.if-is_above.ensures)

pub loop-i-preserved : goal.loop-i-preserved
loop-i-preserved c =
    none_above c.args.nested.now c.loop-i.i c.args.path.now c.loop-i.invariant (not_above_here c.args.nested.now c.loop-i.i c.index-nested-i.result c.args.path.now c.loop-i-test.true c.index-nested-i.is c.if-is_above.ensures)

pub returns : goal.returns
returns c = none_at_all c.args.nested.now c.loop-i.i c.args.path.now c.loop-i-test.false c.loop-i.invariant
