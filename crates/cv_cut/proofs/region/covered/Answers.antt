use Rattle.cv_cut.proofs.Sides.{stand_from, covered_are}
use Rattle.cv_cut.proofs.region.covered.Goals as goal

pub count_covered-requires : goal.count_covered-requires
count_covered-requires c = stand_from c.args.path.now c.args.entries.now _ c.requires c.starting_at-rest.ensures

pub returns : goal.returns
returns c = covered_are c.args.path.now c.args.entries.now _ _ c.starting_at-rest.ensures c.count_covered.ensures.covered
