use Rattle.cv_cut.proofs.Collisions.{all_cuts, each_apart}
use Rattle.cv_cut.proofs.cutting.first_fault.Goals as goal

pub check_keys-requires-clause-cuts : goal.check_keys-requires-clause-cuts
check_keys-requires-clause-cuts c = all_cuts c.args.tree.now c.args.cuts.now c.requires.cuts

pub returns-in-Ok : goal.returns-in-Ok
returns-in-Ok c = (rw c.in-CatalogueFull.is at c.requires.fault, each_apart c.args.tree.now c.args.cuts.now c.requires.tree c.requires.cuts c.in-Ok.ensures.ok)
