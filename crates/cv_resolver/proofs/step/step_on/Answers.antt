use Rattle.std.proofs.Common.{ℕ, List, refl, subst}
use Rattle.cv_resolver.specs.Naming.{AreKnown}
use Rattle.cv_resolver.specs.Spot.{levels_of}
use Rattle.cv_resolver.specs.PassInner.{passed_levels}
use Rattle.cv_resolver.specs.declared.pass.Passed.{Passed}
use Rattle.cv_resolver.proofs.Naming.{none_known, known_on}
use Rattle.cv_resolver.specs.PassInner.{PassesTo}
use Rattle.cv_resolver.proofs.Telling.{on_told, over_told, renamed, link_step}
use Rattle.cv_resolver.proofs.step.step_on.Goals as goal

pub returns-in-At-clause-levels : goal.returns-in-At-clause-levels
returns-in-At-clause-levels c =
    let e = c.in_ok-spot.ensures in
    subst (λ (x : Passed). AreKnown c.args.catalogue.now (levels_of c.args.walk.spot) (passed_levels x)) c.in-At.is e.levels

pub returns-in-Over-clause-levels : goal.returns-in-Over-clause-levels
returns-in-Over-clause-levels c = none_known c.args.catalogue.now (levels_of c.args.walk.spot)

pub returns-in-Link-clause-levels : goal.returns-in-Link-clause-levels
returns-in-Link-clause-levels c =
    let e = c.in_ok-spot.ensures in
    known_on c.args.catalogue.now (levels_of c.args.walk.spot) (levels_of c.in-Link.spot) c.follow_link.result
    (subst (λ (x : Passed). AreKnown c.args.catalogue.now (levels_of c.args.walk.spot) (passed_levels x)) c.in-Link.is e.levels) c.follow_link.ensures.levels

pub returns-in-At-clause-told : goal.returns-in-At-clause-told
returns-in-At-clause-told c = λ rules name names is.
    let e = c.in_ok-spot.ensures in
    let told = subst (λ (x : List ℕ). PassesTo c.args.catalogue.now c.args.walk.spot x c.in_ok-spot.field-0) c.as_str.ensures (e.told rules) in
    let passed = subst (PassesTo c.args.catalogue.now c.args.walk.spot c.in-Some.name) c.in-At.is told in
    renamed c.args.repository.now c.args.stays c.args.catalogue.now c.args.walk c.in-Some.name name c.pop_front.new.self.items names _ c.in-Some.ensures.items is
    (on_told c.args.repository.now c.args.stays c.args.catalogue.now c.args.walk c.in-Some.name c.pop_front.new.self.items c.in-At.spot _ passed refl refl refl)

pub returns-in-Over-clause-told : goal.returns-in-Over-clause-told
returns-in-Over-clause-told c = λ rules name names is.
    let e = c.in_ok-spot.ensures in
    let told = subst (λ (x : List ℕ). PassesTo c.args.catalogue.now c.args.walk.spot x c.in_ok-spot.field-0) c.as_str.ensures (e.told rules) in
    let passed = subst (PassesTo c.args.catalogue.now c.args.walk.spot c.in-Some.name) c.in-Over.is told in
    renamed c.args.repository.now c.args.stays c.args.catalogue.now c.args.walk c.in-Some.name name c.pop_front.new.self.items names _ c.in-Some.ensures.items is
    (over_told c.args.repository.now c.args.stays c.args.catalogue.now c.args.walk c.in-Some.name c.pop_front.new.self.items c.in-Over.halt passed)

pub returns-in-Link-clause-told : goal.returns-in-Link-clause-told
returns-in-Link-clause-told c = λ rules name names is.
    let e = c.in_ok-spot.ensures in
    let told = subst (λ (x : List ℕ). PassesTo c.args.catalogue.now c.args.walk.spot x c.in_ok-spot.field-0) c.as_str.ensures (e.told rules) in
    let passed = subst (PassesTo c.args.catalogue.now c.args.walk.spot c.in-Some.name) c.in-Link.is told in
    link_step c.args.repository.now c.args.stays c.args.catalogue.now c.args.walk c.in-Some.name name c.pop_front.new.self.items names c.follow_link.result c.in-Link.spot c.in-Link.path c.in-Link.target c.in-Some.ensures.items is passed c.follow_link.ensures.told
