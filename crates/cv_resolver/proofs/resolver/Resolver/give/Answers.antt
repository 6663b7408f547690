use Rattle.std.proofs.Common.{sym, subst, ◌∙◌}
use Rattle.cv_resolver.specs.Resolver.{IsOn}
use Rattle.cv_resolver.proofs.Resolving.{gives, gives_seen, stays_on}
use Rattle.cv_resolver.proofs.resolver.Resolver.give.Goals as goal

pub returns-clause-gives : goal.returns-clause-gives
returns-clause-gives c =
    gives_seen c.args.self.now _ _ _ c.self.view_is
    (gives _ c.in-Some.asked _ c.held.result c.take-stage.new.cache c.take-stage.result (sym c.take.ensures.value ∙ c.in-Some.is) c.held.ensures c.text.result.now c.text.ensures.text c.take-stage.ensures.takes)

pub returns-clause-on : goal.returns-clause-on
returns-clause-on c = λ t on.
    stays_on _ c.in-Some.asked _ c.held.result c.take-stage.new.cache c.take-stage.result (sym c.take.ensures.value ∙ c.in-Some.is) c.held.ensures c.text.result.now c.text.ensures.text c.take-stage.ensures.takes t
    (subst (IsOn t) (sym c.self.view_is) on)
    (c.take-stage.ensures.stage t on.tree on.fits (let inside = subst (IsOn t) (sym c.self.view_is) on in inside.own))
