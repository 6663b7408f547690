use Rattle.std.proofs.Common.{ap}
use Rattle.std.specs.Option.{option_copied}
use Rattle.cv_checkout.proofs.Ending.{empty_fits, found_fits, no_part}
use Rattle.cv_checkout.proofs.checkout.part_at.Goals as goal

pub returns-in-Some-clause-limits : goal.returns-in-Some-clause-limits
returns-in-Some-clause-limits c = found_fits c.in-Some.tree.now c.args.path.now c.subtree.result c.get.ensures.tree c.subtree.ensures

pub returns-in-None-clause-part : goal.returns-in-None-clause-part
returns-in-None-clause-part c = no_part (option_copied c.args.tree) c.args.path.now (ap option_copied c.in-None.is)

pub returns-in-None-clause-limits : goal.returns-in-None-clause-limits
returns-in-None-clause-limits c = empty_fits c.args.path.now
