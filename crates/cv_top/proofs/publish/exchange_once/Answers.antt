use Rattle.std.proofs.lemmas.Result.{err_from_is_err_and}
use Rattle.std.proofs.Common.{subst, refl}
use Rattle.cv_client.proofs.Lemmas.{asks_none, asks_once}
use Rattle.cv_publisher.specs.Holding.{PublisherView}
use Rattle.cv_publisher.specs.Taking.{Takes}
use Rattle.cv_publisher.specs.Wanting.{Wants}
use Rattle.cv_top.specs.Publishes.{went, lost, ended, unwanted}
use Rattle.cv_top.specs.Seal.{is_seal_by}
use Rattle.cv_top.proofs.publish.exchange_once.Goals as goal

pub returns-in_ok-reply-in-Exchange-clause-steps : goal.returns-in_ok-reply-in-Exchange-clause-steps
returns-in_ok-reply-in-Exchange-clause-steps g c =
    went _ _ (subst (Wants c.args.keys.now c.args.publisher.now.plan c.args.publisher.now.stage) c.in-Exchange.is c.in_ok-request.ensures.wants) c.in_ok-reply-in-Exchange.ensures.exchanges
    (subst (λ (p : PublisherView). Takes (is_seal_by c.args.signer.now) c.in_ok-reply-in-Exchange.reply p c.take.new.self) c.want.ensures.unchanged c.take.ensures)

pub returns-in_err-reply-in-Exchange-clause-steps : goal.returns-in_err-reply-in-Exchange-clause-steps
returns-in_err-reply-in-Exchange-clause-steps g c =
    let p = err_from_is_err_and c.from_residual-in_err-reply-in-Exchange.result c.from_residual-in_err-reply-in-Exchange.ensures.1 in
    rw (p.1, p.2) (lost _ _ (subst (Wants c.args.keys.now c.args.publisher.now.plan c.args.publisher.now.stage) c.in-Exchange.is c.in_ok-request.ensures.wants) c.in_err-reply-in-Exchange.ensures.exchanges)

pub returns-in-Done-clause-steps : goal.returns-in-Done-clause-steps
returns-in-Done-clause-steps g c = ended _ (subst (Wants c.args.keys.now c.args.publisher.now.plan c.args.publisher.now.stage) c.in-Done.is c.in_ok-request.ensures.wants) refl

pub returns-in_err-request-clause-steps : goal.returns-in_err-request-clause-steps
returns-in_err-request-clause-steps g c =
    let p = err_from_is_err_and c.from_residual.result c.from_residual.ensures.1 in
    rw (p.1, p.2) (unwanted refl)

pub returns-in_ok-reply-in-Exchange-clause-asks : goal.returns-in_ok-reply-in-Exchange-clause-asks
returns-in_ok-reply-in-Exchange-clause-asks g c = asks_once c.in_ok-reply-in-Exchange.ensures.exchanges c.in_ok-reply-in-Exchange.ensures.looks

pub returns-in_err-reply-in-Exchange-clause-asks : goal.returns-in_err-reply-in-Exchange-clause-asks
returns-in_err-reply-in-Exchange-clause-asks g c = asks_once c.in_err-reply-in-Exchange.ensures.exchanges c.in_err-reply-in-Exchange.ensures.looks

pub returns-in-Done-clause-asks : goal.returns-in-Done-clause-asks
returns-in-Done-clause-asks g c = asks_none

pub returns-in_err-request-clause-asks : goal.returns-in_err-request-clause-asks
returns-in_err-request-clause-asks g c = asks_none
