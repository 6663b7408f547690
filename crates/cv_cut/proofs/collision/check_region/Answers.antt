use Rattle.cv_cut.specs.Cut.{keys_at}
use Rattle.cv_cut.specs.CutInner.{AreSame}
use Rattle.cv_cut.proofs.Collisions.{shares}
use Rattle.cv_cut.proofs.collision.check_region.Goals as goal

pub returns-clause-err : goal.returns-clause-err
returns-clause-err c =
    let same : AreSame (keys_at c.args.region.now) c.in-Some.first c.in-Some.second = rw c.in-Some.is at c.in_ok-first.ensures in
    shares c.args.region.now c.in-Some.first c.in-Some.second c.index-region-first.result c.index-region-second.result _ _ same c.in_ok-copy.ensures c.in_ok-copy-2.ensures
