use Rattle.std.proofs.Common.{◌≡◌, Option, List, [], true, false, take, refl, sym, ap, subst, ◌∙◌}
use Rattle.std.specs.declared.option.Option.TheVariants.{Some}
use Rattle.cv_base.specs.Path.{Path}
use Rattle.cv_resolver.specs.Walk.{Name}
use Rattle.cv_resolver.specs.Spot.{IsSpot, levels_of}
use Rattle.cv_resolver.specs.NamingInner.{AreAmong}
use Rattle.cv_resolver.specs.TargetInner.{start_of, IsFrom}
use Rattle.cv_resolver.specs.Rows.{IsAt}
use Rattle.cv_resolver.specs.declared.spot.Spot.{Spot}
use Rattle.cv_resolver.proofs.Following.{stops, leads_on}
use Rattle.cv_base.specs.PathText.{parts_of}
use Rattle.cv_resolver.proofs.Telling.{met_stays, met_too_many, met_nowhere, met_leads}
use Rattle.cv_resolver.proofs.follow.follow_link.Goals as goal

abbrev start : Path → List Name → Option (Path × List Name)
start p names = Some (p, names)

pub returns-then-stops-clause-step : goal.returns-then-stops-clause-step
returns-then-stops-clause-step c = λ t tree is l.
    stops c.args.repository.now t c.args.stays c.args.walk c.args.path c.args.target.now (record { spot = c.moved.result; names = c.args.walk.names; links = c.args.walk.links }) (sym c.stops.ensures ∙ c.if-stops.true) l c.moved.ensures refl refl

pub returns-in_ok-walk-in-Root-clause-step : goal.returns-in_ok-walk-in-Root-clause-step
returns-in_ok-walk-in-Root-clause-step c = λ t tree is l.
    let e = c.in_ok-walk-in-Root.ensures in
    let next = c.in_ok-walk-in-Root.walk in
    let top : next.spot.at ≡ [] = ap (λ (x : Spot). x.at) e.spot ∙ c.at_root.ensures.at.place in
    leads_on c.args.repository.now t c.args.stays c.args.walk c.args.path c.args.target.now (sym c.stops.ensures ∙ c.if-stops.false) c.if-walk-eq0.false next c.in-Root.names.items
    (subst (IsSpot t) (sym e.spot) (c.at_root.ensures.stands t tree is))
    (c.in_ok-lead_of_target.ensures.lead c.args.walk.spot.at ∙ ap (start_of c.args.walk.spot.at) c.in-Root.is ∙ ap (λ (p : Path). start p c.in-Root.names.items) (sym top))
    e.names e.links

pub returns-in_ok-walk-in-Here-clause-step : goal.returns-in_ok-walk-in-Here-clause-step
returns-in_ok-walk-in-Here-clause-step c = λ t tree is l.
    let e = c.in_ok-walk-in-Here.ensures in
    let next = c.in_ok-walk-in-Here.walk in
    let here : next.spot.at ≡ c.args.walk.spot.at = ap (λ (x : Spot). x.at) e.spot in
    leads_on c.args.repository.now t c.args.stays c.args.walk c.args.path c.args.target.now (sym c.stops.ensures ∙ c.if-stops.false) c.if-walk-eq0.false next c.in-Here.names.items
    (subst (IsSpot t) (sym e.spot) is)
    (c.in_ok-lead_of_target.ensures.lead c.args.walk.spot.at ∙ ap (start_of c.args.walk.spot.at) c.in-Here.is ∙ ap (λ (p : Path). start p c.in-Here.names.items) (sym here))
    e.names e.links

pub returns-then-stops-clause-levels : goal.returns-then-stops-clause-levels
returns-then-stops-clause-levels c = subst (λ (s : Spot). AreAmong (levels_of c.args.walk.spot) (levels_of s)) (sym c.moved.ensures) (λ l has. has)

pub returns-in_ok-walk-in-Root-clause-levels : goal.returns-in_ok-walk-in-Root-clause-levels
returns-in_ok-walk-in-Root-clause-levels c =
    let e = c.in_ok-walk-in-Root.ensures in
    subst (λ (s : Spot). AreAmong (levels_of c.args.walk.spot) (levels_of s)) (sym e.spot) c.at_root.ensures.levels

pub returns-in_ok-walk-in-Here-clause-levels : goal.returns-in_ok-walk-in-Here-clause-levels
returns-in_ok-walk-in-Here-clause-levels c =
    let e = c.in_ok-walk-in-Here.ensures in
    subst (λ (s : Spot). AreAmong (levels_of c.args.walk.spot) (levels_of s)) (sym e.spot) (λ l has. has)

pub returns-then-stops-clause-told : goal.returns-then-stops-clause-told
returns-then-stops-clause-told c = λ directory.
    met_stays c.args.repository.now c.args.walk.spot c.args.walk.names.items c.args.walk.links c.args.path (parts_of c.args.target.now) _ (record { spot = c.moved.result; names = c.args.walk.names; links = c.args.walk.links })
    (sym c.stops.ensures ∙ c.if-stops.true) c.moved.ensures refl refl

pub returns-then-walk-eq0-clause-told : goal.returns-then-walk-eq0-clause-told
returns-then-walk-eq0-clause-told c = λ directory.
    met_too_many c.args.repository.now c.args.walk.spot c.args.walk.names.items c.args.walk.links c.args.path (parts_of c.args.target.now) _ (sym c.stops.ensures ∙ c.if-stops.false) c.if-walk-eq0.true

pub returns-in-Nowhere-clause-told : goal.returns-in-Nowhere-clause-told
returns-in-Nowhere-clause-told c = λ directory.
    met_nowhere c.args.repository.now c.args.walk.spot c.args.walk.names.items c.args.walk.links c.args.path (parts_of c.args.target.now) _ (sym c.stops.ensures ∙ c.if-stops.false) c.if-walk-eq0.false
    (c.in_ok-lead_of_target.ensures.lead c.args.walk.spot.at ∙ ap (start_of c.args.walk.spot.at) c.in-Nowhere.is)

pub returns-in_ok-walk-in-Root-clause-told : goal.returns-in_ok-walk-in-Root-clause-told
returns-in_ok-walk-in-Root-clause-told c = λ directory.
    let e = c.in_ok-walk-in-Root.ensures in
    let next = c.in_ok-walk-in-Root.walk in
    met_leads c.args.repository.now c.args.walk.spot c.args.walk.names.items c.args.walk.links c.args.path (parts_of c.args.target.now) _ true [] c.in-Root.names.items next (sym c.stops.ensures ∙ c.if-stops.false) c.if-walk-eq0.false
    (c.in_ok-lead_of_target.ensures.lead c.args.walk.spot.at ∙ ap (start_of c.args.walk.spot.at) c.in-Root.is) (subst (IsFrom (parts_of c.args.target.now)) c.in-Root.is c.in_ok-lead_of_target.ensures.from)
    (subst (IsAt [] true (take 1 (levels_of c.args.walk.spot))) (sym e.spot) c.at_root.ensures.at) e.names e.links

pub returns-in_ok-walk-in-Here-clause-told : goal.returns-in_ok-walk-in-Here-clause-told
returns-in_ok-walk-in-Here-clause-told c = λ directory.
    let e = c.in_ok-walk-in-Here.ensures in
    let next = c.in_ok-walk-in-Here.walk in
    met_leads c.args.repository.now c.args.walk.spot c.args.walk.names.items c.args.walk.links c.args.path (parts_of c.args.target.now) _ false c.args.walk.spot.at c.in-Here.names.items next (sym c.stops.ensures ∙ c.if-stops.false) c.if-walk-eq0.false
    (c.in_ok-lead_of_target.ensures.lead c.args.walk.spot.at ∙ ap (start_of c.args.walk.spot.at) c.in-Here.is) (subst (IsFrom (parts_of c.args.target.now)) c.in-Here.is c.in_ok-lead_of_target.ensures.from)
    (record { place = ap (λ (x : Spot). x.at) e.spot; is_dir = ap (λ (x : Spot). x.is_directory) e.spot ∙ directory; cuts = ap levels_of e.spot }) e.names e.links
