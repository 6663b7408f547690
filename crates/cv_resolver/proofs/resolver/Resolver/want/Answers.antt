use Rattle.std.proofs.Common.{sym, ap, ◌∙◌}
use Rattle.cv_resolver.specs.Resolver.{Client, wanted_in}
use Rattle.cv_resolver.proofs.Ways.{wanted_way}
use Rattle.cv_resolver.proofs.resolver.Resolver.want.Goals as goal

pub returns-in-Some-clause-way : goal.returns-in-Some-clause-way
returns-in-Some-clause-way c = λ t q on asks.
    wanted_way c.args.self.now t q c.wanted.result (c.wanted.ensures ∙ ap wanted_in (sym c.in-Some.is) ∙ ap (λ (r : Client). wanted_in r.asked) c.self.view_is) on asks
