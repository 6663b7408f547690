use Rattle.std.proofs.Common.{arith}
use Rattle.cv_rows.proofs.Listing.{each_more, each_all}
use Rattle.cv_rows.proofs.places.places_of.Goals as goal

pub loop-row-preserved : goal.loop-row-preserved
loop-row-preserved c =
    let d = c.requires.stand.root.0 in
    each_more c.args.at.now c.args.rows.now c.loop-row.paths.items c.push.new.self.items c.loop-row.row d c.in_ok-path.path c.loop-row-test.true c.in_ok-push.ensures.items (c.in_ok-path.ensures d) c.loop-row.invariant

pub returns : goal.returns
returns c = each_all c.args.at.now c.args.rows.now c.loop-row.paths.items c.loop-row.row (omega arith) c.loop-row.invariant
