use Rattle.cv_leases.proofs.Climbing.{below_within}
use Rattle.cv_leases.proofs.Needed.{pruned_below}
use Rattle.cv_leases.proofs.names.Names.child_or_new.Goals as goal

pub returns-in-Some-clause-below : goal.returns-in-Some-clause-below
returns-in-Some-clause-below g c = λ depth near. below_within c.args.self.now depth c.args.above c.in-Some.id c.in-Some.ensures.above near

pub returns-in-Some-clause-pruned : goal.returns-in-Some-clause-pruned
returns-in-Some-clause-pruned g c = pruned_below c.args.self.now c.args.above c.in-Some.id c.in-Some.ensures.above c.requires.pruned
