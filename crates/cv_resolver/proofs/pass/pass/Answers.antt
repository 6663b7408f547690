use Rattle.std.proofs.Common.{refl, sym, subst, ◌∙◌}
use Rattle.std.proofs.lemmas.Bool.{not-true, not-false}
use Rattle.cv_resolver.specs.EnterInner.{IsEntered, entered_levels}
use Rattle.cv_resolver.specs.declared.enter.Entered.{Entered}
use Rattle.cv_resolver.specs.declared.enter.Entered.TheVariants.{Nothing, Stands, Link}
use Rattle.cv_resolver.specs.Naming.{AreKnown}
use Rattle.cv_resolver.specs.Spot.{levels_of}
use Rattle.cv_resolver.proofs.Naming.{none_known, still_known}
use Rattle.cv_resolver.proofs.Passing.{idle, below_file, up, nothing, stands, link}
use Rattle.cv_resolver.specs.EnterInner.{IsToldBy}
use Rattle.cv_resolver.specs.PassInner.{idle as passed_over, below_file as passed_file, up as passed_up, down}
use Rattle.cv_resolver.proofs.pass.pass.Goals as goal

pub returns-then-is_idle-clause-passed : goal.returns-then-is_idle-clause-passed
returns-then-is_idle-clause-passed c = λ t tree fits is own. idle t c.args.spot c.args.name.now (sym c.is_idle.ensures ∙ c.if-is_idle.true) is

pub returns-then-not-spot-clause-passed : goal.returns-then-not-spot-clause-passed
returns-then-not-spot-clause-passed c = λ t tree fits is own. below_file t c.args.spot c.args.name.now (sym c.is_idle.ensures ∙ c.if-is_idle.false) (not-true c.args.spot.is_directory c.if-not-spot.true) is

pub returns-then-is_up-clause-passed : goal.returns-then-is_up-clause-passed
returns-then-is_up-clause-passed c = λ t tree fits is own.
    up t c.args.spot c.args.name.now (sym c.is_idle.ensures ∙ c.if-is_idle.false) (not-false c.args.spot.is_directory c.if-not-spot.false) c.above.result (sym c.is_up.ensures ∙ c.if-is_up.true) is (c.above.ensures.stands t tree is) c.above.ensures.at.place

pub returns-in-Nothing-clause-passed : goal.returns-in-Nothing-clause-passed
returns-in-Nothing-clause-passed c = λ t tree fits is own.
    nothing t c.args.spot c.args.name.now (sym c.is_idle.ensures ∙ c.if-is_idle.false) (not-false c.args.spot.is_directory c.if-not-spot.false) (sym c.is_up.ensures ∙ c.if-is_up.false) is
    (subst (λ (e : Entered). IsEntered t c.args.spot c.args.name.now e) c.in-Nothing.is (let e = c.in_ok-enter.ensures in e.entered t tree fits is own))

pub returns-in-Stands-clause-passed : goal.returns-in-Stands-clause-passed
returns-in-Stands-clause-passed c = λ t tree fits is own.
    stands t c.args.spot c.args.name.now (sym c.is_idle.ensures ∙ c.if-is_idle.false) (not-false c.args.spot.is_directory c.if-not-spot.false) (sym c.is_up.ensures ∙ c.if-is_up.false) c.in-Stands.spot is
    (subst (λ (e : Entered). IsEntered t c.args.spot c.args.name.now e) c.in-Stands.is (let e = c.in_ok-enter.ensures in e.entered t tree fits is own))

pub returns-in-Link-clause-passed : goal.returns-in-Link-clause-passed
returns-in-Link-clause-passed c = λ t tree fits is own.
    link t c.args.spot c.args.name.now (sym c.is_idle.ensures ∙ c.if-is_idle.false) (not-false c.args.spot.is_directory c.if-not-spot.false) (sym c.is_up.ensures ∙ c.if-is_up.false) c.in-Link.spot c.in-Link.path c.in-Link.target is
    (subst (λ (e : Entered). IsEntered t c.args.spot c.args.name.now e) c.in-Link.is (let e = c.in_ok-enter.ensures in e.entered t tree fits is own))

pub returns-then-is_idle-clause-levels : goal.returns-then-is_idle-clause-levels
returns-then-is_idle-clause-levels c = still_known c.args.catalogue.now (levels_of c.args.spot) (levels_of c.args.spot) (λ l has. has)

pub returns-then-not-spot-clause-levels : goal.returns-then-not-spot-clause-levels
returns-then-not-spot-clause-levels c = none_known c.args.catalogue.now (levels_of c.args.spot)

pub returns-then-is_up-clause-levels : goal.returns-then-is_up-clause-levels
returns-then-is_up-clause-levels c = still_known c.args.catalogue.now (levels_of c.args.spot) (levels_of c.above.result) c.above.ensures.levels

pub returns-in-Nothing-clause-levels : goal.returns-in-Nothing-clause-levels
returns-in-Nothing-clause-levels c = none_known c.args.catalogue.now (levels_of c.args.spot)

pub returns-in-Stands-clause-levels : goal.returns-in-Stands-clause-levels
returns-in-Stands-clause-levels c =
    let e = c.in_ok-enter.ensures in
    subst (λ (x : Entered). AreKnown c.args.catalogue.now (levels_of c.args.spot) (entered_levels x)) c.in-Stands.is e.levels

pub returns-in-Link-clause-levels : goal.returns-in-Link-clause-levels
returns-in-Link-clause-levels c =
    let e = c.in_ok-enter.ensures in
    subst (λ (x : Entered). AreKnown c.args.catalogue.now (levels_of c.args.spot) (entered_levels x)) c.in-Link.is e.levels

pub returns-then-is_idle-clause-told : goal.returns-then-is_idle-clause-told
returns-then-is_idle-clause-told c = λ rules. passed_over (sym c.is_idle.ensures ∙ c.if-is_idle.true) refl

pub returns-then-not-spot-clause-told : goal.returns-then-not-spot-clause-told
returns-then-not-spot-clause-told c = λ rules. passed_file (sym c.is_idle.ensures ∙ c.if-is_idle.false) (not-true c.args.spot.is_directory c.if-not-spot.true) refl

pub returns-then-is_up-clause-told : goal.returns-then-is_up-clause-told
returns-then-is_up-clause-told c = λ rules.
    passed_up (sym c.is_idle.ensures ∙ c.if-is_idle.false) (not-false c.args.spot.is_directory c.if-not-spot.false) (sym c.is_up.ensures ∙ c.if-is_up.true) c.above.result c.above.ensures.at refl

pub returns-in-Nothing-clause-told : goal.returns-in-Nothing-clause-told
returns-in-Nothing-clause-told c = λ rules.
    down (record { some = sym c.is_idle.ensures ∙ c.if-is_idle.false; directory = not-false c.args.spot.is_directory c.if-not-spot.false; down = sym c.is_up.ensures ∙ c.if-is_up.false }) Nothing
    (subst (λ (e : Entered). IsToldBy c.args.catalogue.now c.args.spot c.args.name.now e) c.in-Nothing.is (let e = c.in_ok-enter.ensures in e.told rules)) refl

pub returns-in-Stands-clause-told : goal.returns-in-Stands-clause-told
returns-in-Stands-clause-told c = λ rules.
    down (record { some = sym c.is_idle.ensures ∙ c.if-is_idle.false; directory = not-false c.args.spot.is_directory c.if-not-spot.false; down = sym c.is_up.ensures ∙ c.if-is_up.false }) (Stands c.in-Stands.spot)
    (subst (λ (e : Entered). IsToldBy c.args.catalogue.now c.args.spot c.args.name.now e) c.in-Stands.is (let e = c.in_ok-enter.ensures in e.told rules)) refl

pub returns-in-Link-clause-told : goal.returns-in-Link-clause-told
returns-in-Link-clause-told c = λ rules.
    down (record { some = sym c.is_idle.ensures ∙ c.if-is_idle.false; directory = not-false c.args.spot.is_directory c.if-not-spot.false; down = sym c.is_up.ensures ∙ c.if-is_up.false }) (Link c.in-Link.spot c.in-Link.path c.in-Link.target)
    (subst (λ (e : Entered). IsToldBy c.args.catalogue.now c.args.spot c.args.name.now e) c.in-Link.is (let e = c.in_ok-enter.ensures in e.told rules)) refl
