use Rattle.std.proofs.Common.{rules}
use Rattle.cv_checkout.proofs.Ending.{base_is}
use Rattle.cv_checkout.proofs.checkout.Checkout.finish.Goals as goal

pub returns-clause-tree : goal.returns-clause-tree
returns-clause-tree c = λ t on. base_is t c.args.self _ on c.requires (search rules) (search rules) (search rules)
