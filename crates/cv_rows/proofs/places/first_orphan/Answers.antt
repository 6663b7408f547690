use Rattle.cv_rows.proofs.Walks.{first_orphan_is, all_stand_is}
use Rattle.cv_rows.proofs.places.first_orphan.Goals as goal

pub returns-then-index-root : goal.returns-then-index-root
returns-then-index-root c = λ at placing.
    first_orphan_is at c.args.rows.now c.args.root c.args.parents.now c.in_ok-far.far.items c.loop-row.row _ c.requires.count placing c.in_ok-far.ensures c.loop-row.invariant c.loop-row-test.true c.index.ensures c.if-index-root.true

pub returns : goal.returns
returns c = λ at placing.
    all_stand_is at c.args.rows.now c.args.root c.args.parents.now c.in_ok-far.far.items c.loop-row.row placing c.in_ok-far.ensures c.loop-row.invariant c.loop-row-test.false
