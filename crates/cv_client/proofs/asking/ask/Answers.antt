use Rattle.std.proofs.Common.{◌≡◌, subst, arith}
use Rattle.cv_base.specs.Counts.{Rose}
use Rattle.cv_base.proofs.Laws.{ok_is}
use Rattle.cv_resolver.specs.Look.{look}
use Rattle.cv_resolver.specs.Resolver.{Client, IsOn}
use Rattle.cv_client.specs.Pin.{client_at}
use Rattle.cv_client.specs.Served.{HasWay, IsWhole}
use Rattle.cv_client.specs.Told.{pinned, unpinned}
use Rattle.cv_client.proofs.Heads.{on_head, unpinned_whole, unfailed}
use Rattle.cv_client.proofs.Lemmas.{asks_then}
use Rattle.cv_client.proofs.Telling.{pin_extends, answer_extends, served_first, served_next}
use Rattle.cv_client.proofs.asking.ask.Goals as goal

pub returns-in-Ok-clause-told : goal.returns-in-Ok-clause-told
returns-in-Ok-clause-told g c = pinned _ _ _ _ c.in-Ok.ensures.pins c.answer.ensures.answers

pub returns-in-Err-clause-told : goal.returns-in-Err-clause-told
returns-in-Err-clause-told g c = unpinned _ c.in-Err.ensures.pins

pub returns-in-Ok-clause-completes : goal.returns-in-Ok-clause-completes
returns-in-Ok-clause-completes g c = λ steady files s t m has.
    let first = pin_extends c.in-Ok.ensures.pins in
    let next = answer_extends c.answer.ensures.answers in
    let sooner = c.in-Ok.ensures.cause.later in
    let later = c.answer.ensures.cause.later in
    let at : c.in-Ok.resolver ≡ client_at m = ok_is _ _ (c.in-Ok.ensures.completes (λ rose. steady (omega (arith, rose, later))) files (served_first first next s) has.text m has.there has.says) in
    let quiet : Rose 1 (g.N.Dial.faults c.pin.new.dial) (g.N.Dial.faults c.answer.new.dial) → ⊥ = λ rose. steady (omega (arith, rose, sooner)) in
    let whole : IsOn t c.in-Ok.resolver → HasWay files c.in-Ok.resolver.name t c.args.question → IsWhole (look c.in-Ok.resolver.name t c.args.question) c.answer.result
    = λ on way. unfailed (look c.in-Ok.resolver.name t c.args.question) c.answer.result (λ is. quiet (c.answer.ensures.cause.failed is)) (c.answer.ensures.completes files (served_next first next s) t on way) in
    (subst (λ (r : Client). IsOn t r → HasWay files r.name t c.args.question → IsWhole (look r.name t c.args.question) c.answer.result) at whole)
    (on_head m has.tree has.fits has.root) has.way

pub returns-in-Err-clause-completes : goal.returns-in-Err-clause-completes
returns-in-Err-clause-completes g c = λ steady files s t m has.
    unpinned_whole m c.in-Err.fault (look m.name t c.args.question) (c.in-Err.ensures.completes steady files s has.text m has.there has.says)

pub returns-in-Ok-clause-asks : goal.returns-in-Ok-clause-asks
returns-in-Ok-clause-asks g c = asks_then c.in-Ok.ensures.asks c.answer.ensures.asks
