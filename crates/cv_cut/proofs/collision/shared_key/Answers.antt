use Rattle.std.proofs.Common.{sym}
use Rattle.cv_cut.proofs.Seen.{one_seen, seen_again}
use Rattle.cv_cut.proofs.Collisions.{key_there, all_keys}
use Rattle.cv_cut.proofs.collision.shared_key.Goals as goal

pub returns-in-Some : goal.returns-in-Some
returns-in-Some c =
    let here = key_there c.args.region.now c.loop-second.second _ c.key.result.0 c.loop-second-test.true c.key.ensures in
    seen_again _ _ _ _ c.key.result.0 c.loop-second.invariant here (sym c.in-Some.ensures.value)

pub loop-second-preserved : goal.loop-second-preserved
loop-second-preserved c =
    let here = key_there c.args.region.now c.loop-second.second _ c.key.result.0 c.loop-second-test.true c.key.ensures in
    one_seen _ _ _ _ c.key.result.0 c.loop-second.invariant here (sym c.in_default.ensures.value) c.in_ok-note.ensures

pub returns : goal.returns
returns c = all_keys c.args.region.now c.loop-second.second _ c.loop-second.invariant c.loop-second-test.false
