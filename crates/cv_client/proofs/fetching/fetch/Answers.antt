use Rattle.std.proofs.Common.{refl, subst}
use Rattle.std.specs.declared.result.Result.TheVariants.{Ok, Err}
use Rattle.std.proofs.lemmas.Result.{err_from_is_err_and}
use Rattle.cv_http.specs.declared.outgoing.Outgoing.{Outgoing}
use Rattle.cv_client.specs.Exchange.{Exchanges}
use Rattle.cv_client.specs.Fetch.{said, lost, unasked}
use Rattle.cv_client.proofs.Lemmas.{asks_once}
use Rattle.cv_client.proofs.Serving.{fetched}
use Rattle.cv_client.proofs.fetching.fetch.Goals as goal

pub returns-in_err-request-clause-fetches : goal.returns-in_err-request-clause-fetches
returns-in_err-request-clause-fetches g c =
    let p = err_from_is_err_and c.from_residual.result c.from_residual.ensures.1 in
    rw (p.1, p.2) (unasked refl)

pub returns-in_err-exchange-clause-fetches : goal.returns-in_err-exchange-clause-fetches
returns-in_err-exchange-clause-fetches g c =
    let p = err_from_is_err_and c.from_residual-in_err-exchange.result c.from_residual-in_err-exchange.ensures.1 in
    rw (p.1, p.2) (lost c.in_err-exchange.field-0.0
    (subst (λ (r : Outgoing). Exchanges c.args.url.now r (g.N.Dial.came c.args.dial.now) (g.N.Dial.came c.exchange.new.dial) (Err c.in_err-exchange.field-0.0)) c.in_ok-request.ensures c.in_err-exchange.ensures.exchanges))

pub returns-clause-fetches : goal.returns-clause-fetches
returns-clause-fetches g c =
    let exchanged = subst (λ (r : Outgoing). Exchanges c.args.url.now r (g.N.Dial.came c.args.dial.now) (g.N.Dial.came c.exchange.new.dial) (Ok c.in_ok-exchange.field-0)) c.in_ok-request.ensures c.in_ok-exchange.ensures.exchanges in
    said c.in_ok-exchange.field-0 c.file_in.result exchanged c.file_in.ensures

pub returns-in_err-exchange-clause-completes : goal.returns-in_err-exchange-clause-completes
returns-in_err-exchange-clause-completes g c = λ files content has s.
    let exchanged = subst (λ (r : Outgoing). Exchanges c.args.url.now r (g.N.Dial.came c.args.dial.now) (g.N.Dial.came c.exchange.new.dial) (Err c.in_err-exchange.field-0.0)) c.in_ok-request.ensures c.in_err-exchange.ensures.exchanges in
    let p = err_from_is_err_and c.from_residual-in_err-exchange.result c.from_residual-in_err-exchange.ensures.1 in
    rw (p.1, p.2) (fetched c.one_reply.ensures c.reply_or_fault.ensures.refused c.reply_or_fault.ensures.cut c.more_behind_a_reply.ensures.reply c.more_behind_a_reply.ensures.refused
    files content has s (Err c.in_err-exchange.field-0.0) (lost c.in_err-exchange.field-0.0 exchanged))

pub returns-clause-completes : goal.returns-clause-completes
returns-clause-completes g c = λ files content has s.
    let exchanged = subst (λ (r : Outgoing). Exchanges c.args.url.now r (g.N.Dial.came c.args.dial.now) (g.N.Dial.came c.exchange.new.dial) (Ok c.in_ok-exchange.field-0)) c.in_ok-request.ensures c.in_ok-exchange.ensures.exchanges in
    fetched c.one_reply.ensures c.reply_or_fault.ensures.refused c.reply_or_fault.ensures.cut c.more_behind_a_reply.ensures.reply c.more_behind_a_reply.ensures.refused
    files content has s c.file_in.result (said c.in_ok-exchange.field-0 c.file_in.result exchanged c.file_in.ensures)

pub returns-in_err-exchange-clause-asks : goal.returns-in_err-exchange-clause-asks
returns-in_err-exchange-clause-asks g c = asks_once c.in_err-exchange.ensures.exchanges c.in_err-exchange.ensures.looks

pub returns-clause-asks : goal.returns-clause-asks
returns-clause-asks g c = asks_once c.in_ok-exchange.ensures.exchanges c.in_ok-exchange.ensures.looks
