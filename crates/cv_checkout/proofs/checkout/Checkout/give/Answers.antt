use Rattle.cv_checkout.proofs.Gifts.{gives_good, gives_on}
use Rattle.cv_checkout.proofs.checkout.Checkout.give.Goals as goal

pub returns-clause-on : goal.returns-clause-on
returns-clause-on c = λ t on own. gives_on t c.args.self.now c.take_next.new.self c.args.bytes c.take_next.result c.take_next.ensures on own

pub returns-clause-good : goal.returns-clause-good
returns-clause-good c = λ t id on own. gives_good t c.args.self.now c.take_next.new.self c.args.bytes id c.take_next.result c.take_next.ensures on own
