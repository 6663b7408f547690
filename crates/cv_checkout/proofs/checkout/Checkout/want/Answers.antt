use Rattle.std.proofs.Common.{rules, ◌≡◌, Some}
use Rattle.cv_checkout.specs.Wanting.{next_of}
use Rattle.cv_checkout.proofs.Ending.{next_toward}
use Rattle.cv_checkout.proofs.checkout.Checkout.want.Goals as goal

pub returns-in-Some-clause-toward : goal.returns-in-Some-clause-toward
returns-in-Some-clause-toward c = λ t on.
    let next : Some c.id_of.result ≡ next_of c.args.self.now.wanted = search rules in
    next_toward t c.args.self.now c.id_of.result next on
