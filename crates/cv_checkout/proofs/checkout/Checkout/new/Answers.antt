use Rattle.std.proofs.Common.{rules}
use Rattle.cv_checkout.proofs.Ending.{begun_on}
use Rattle.cv_checkout.proofs.checkout.Checkout.new.Goals as goal

pub returns-clause-on : goal.returns-clause-on
returns-clause-on c = λ t tree fits root. begun_on t _ c.args.root.now.hash c.args.path (search rules) tree fits root
