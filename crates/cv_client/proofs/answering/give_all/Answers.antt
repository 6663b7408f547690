use Rattle.std.proofs.Common.{◌≡◌, sym, ap, subst, ◌∙◌, arith}
use Rattle.std.specs.Prelude.{Option, List, ℕ, Some, Err, option_to_list}
use Rattle.cv_base.specs.Counts.{Rose}
use Rattle.cv_base.proofs.Laws.{one_fault, left_by}
use Rattle.cv_resolver.specs.Look.{OnWay}
use Rattle.cv_resolver.specs.Resolver.{Gives, IsOn}
use Rattle.cv_tree.specs.Tree.{Nodes}
use Rattle.cv_resolver.specs.Kept.{AreOwn}
use Rattle.cv_resolver.specs.declared.resolver.Asked.{Asked}
use Rattle.cv_client.specs.GivingInner.{GivesAll, all, cut}
use Rattle.cv_client.specs.Served.{HasObject}
use Rattle.cv_client.specs.ServedInner.{IsSupplied}
use Rattle.cv_client.specs.declared.exchanging.ExchangeFault.{ExchangeFault}
use Rattle.cv_client.specs.declared.exchanging.ExchangeFault.TheVariants.{LinkFailed}
use Rattle.cv_client.proofs.Coming.{begins, goes_on, fewer_left, asked_still, named_still}
use Rattle.cv_client.proofs.Lemmas.{asks_none, asks_then}
use Rattle.cv_client.proofs.Supplying.{one_supplied, unsupplied}
use Rattle.cv_client.proofs.Telling.{extends_none, extends_then, fetch_extends, served_first, served_next}
use Rattle.cv_client.proofs.answering.give_all.Goals as goal

pub wants-init : goal.wants-init
wants-init g c = record { on = begins; extends = extends_none; supplied = λ files s t q on unblamed asked way. (on, unblamed); asks = asks_none; later = omega arith }

pub wants-smaller : goal.wants-smaller
wants-smaller g c =
    fewer_left c.in-Some.id c.questions_come_to_answers.ensures.fewer (sym c.want.ensures.wanted ∙ c.in-Some.is) c.give.ensures.gives

pub wants-preserved : goal.wants-preserved
wants-preserved g c =
    let wanted = sym c.want.ensures.wanted ∙ c.in-Some.is in
    let gives : (a : Asked) → c.wants.resolver.asked ≡ Some a → Gives c.wants.resolver a c.in_ok-object.object c.give.new.self = λ a asked. subst (λ (x : Option (List ℕ)). Gives c.wants.resolver a x c.give.new.self) c.into_vec.ensures (c.give.ensures.gives a asked) in
    let on : (t : Nodes) → IsOn t c.wants.resolver → AreOwn t (option_to_list c.in_ok-object.object) → IsOn t c.give.new.self = λ t is own. c.give.ensures.on t is (subst (λ (x : Option (List ℕ)). AreOwn t (option_to_list x)) (sym c.into_vec.ensures) own) in
    let before = c.wants.invariant in
    let next = fetch_extends c.in_ok-object.ensures.fetches in
    let first = c.wants.invariant.later in
    let then = c.in_ok-object.ensures.cause.later in
    record {
      on = goes_on c.in-Some.id c.in_ok-object.object before.on wanted c.in_ok-object.ensures.fetches gives on;
      extends = extends_then before.extends next;
      supplied = λ files s t q is unblamed asked way.
          let so = before.supplied files (served_first before.extends next s) t q is unblamed asked way in
          let there : OnWay c.wants.resolver.name t q c.in-Some.id = c.in-Some.ensures.way t q so.0 (asked_still q before.on.comes asked) in
          let h : HasObject files t c.in-Some.id = way c.in-Some.id (subst (λ (name : List ℕ). OnWay name t q c.in-Some.id) (named_still before.on.comes) there) in
          one_supplied c.faults_tell_what_was_given.ensures.named c.faults_tell_what_was_given.ensures.not_served c.faults_tell_what_was_given.ensures.bad_object
          t c.in-Some.id files c.in_ok-object.object h (c.in_ok-object.ensures.completes files h.content h.there (served_next before.extends next s)) wanted gives (on t so.0);
      asks = asks_then before.asks c.in_ok-object.ensures.asks;
      later = omega (arith, first, then);
    }

pub returns-in_err-object-clause-gives : goal.returns-in_err-object-clause-gives
returns-in_err-object-clause-gives g c =
    left_by (GivesAll c.args.url.now (g.N.Dial.came c.args.dial.now) (g.N.Dial.came c.fetch_object.new.dial) c.args.resolver.now c.wants.resolver) _ _ c.from_residual.ensures.1
    (cut (g.N.Dial.came c.wants.dial) c.in-Some.id c.in_err-object.field-0.0 c.wants.invariant.on (sym c.want.ensures.wanted ∙ c.in-Some.is) c.in_err-object.ensures.fetches)

pub returns-in_err-object-clause-completes : goal.returns-in_err-object-clause-completes
returns-in_err-object-clause-completes g c = λ files s t q is unblamed asked way.
    let before = c.wants.invariant in
    let next = fetch_extends c.in_err-object.ensures.fetches in
    let so = before.supplied files (served_first before.extends next s) t q is unblamed asked way in
    let there : OnWay c.wants.resolver.name t q c.in-Some.id = c.in-Some.ensures.way t q so.0 (asked_still q before.on.comes asked) in
    let h : HasObject files t c.in-Some.id = way c.in-Some.id (subst (λ (name : List ℕ). OnWay name t q c.in-Some.id) (named_still before.on.comes) there) in
    left_by (IsSupplied t c.wants.resolver) _ _ c.from_residual.ensures.1
    (unsupplied t c.wants.resolver h.content c.in_err-object.field-0.0 (c.in_err-object.ensures.completes files h.content h.there (served_next before.extends next s)))

pub returns-in_err-object-clause-cause : goal.returns-in_err-object-clause-cause
returns-in_err-object-clause-cause g c =
    let first = c.wants.invariant.later in
    let then = c.in_err-object.ensures.cause.later in
    record {
      later = omega (arith, first, then);
      failed = λ is.
          let same = one_fault _ c.in_err-object.field-0.0 LinkFailed c.from_residual.ensures.1 is in
          let rose : Rose 1 (g.N.Dial.faults c.wants.dial) (g.N.Dial.faults c.fetch_object.new.dial) = c.in_err-object.ensures.cause.failed (ap (λ (f : ExchangeFault). Err f) same) in
          omega (arith, first, rose);
    }

pub returns-clause-gives : goal.returns-clause-gives
returns-clause-gives g c = all c.wants.invariant.on (sym c.want.ensures.wanted ∙ c.in_default.is)

pub returns-clause-completes : goal.returns-clause-completes
returns-clause-completes g c = c.wants.invariant.supplied

pub returns-clause-cause : goal.returns-clause-cause
returns-clause-cause g c = record { later = c.wants.invariant.later; failed = λ is. absurd cc }

pub returns-in_err-object-clause-asks : goal.returns-in_err-object-clause-asks
returns-in_err-object-clause-asks g c = asks_then c.wants.invariant.asks c.in_err-object.ensures.asks

pub returns-clause-asks : goal.returns-clause-asks
returns-clause-asks g c = c.wants.invariant.asks
