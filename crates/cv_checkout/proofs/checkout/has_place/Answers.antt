use Rattle.std.proofs.Common.{ap}
use Rattle.std.specs.Option.{option_copied}
use Rattle.cv_checkout.proofs.Ending.{no_place}
use Rattle.cv_checkout.proofs.checkout.has_place.Goals as goal

pub returns-in-None : goal.returns-in-None
returns-in-None c = no_place (option_copied c.args.tree) c.args.path.now c.names.result.now c.is_empty.result (ap option_copied c.in-None.is) c.names.ensures.names c.is_empty.ensures c.if-is_empty.false
