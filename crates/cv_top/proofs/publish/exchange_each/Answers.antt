use Rattle.std.proofs.Common.{◌≡◌, ap, arith}
use Rattle.std.specs.Prelude.{Err}
use Rattle.cv_base.specs.Counts.{Rose}
use Rattle.cv_client.proofs.Lemmas.{asks_none, asks_then}
use Rattle.cv_client.specs.declared.exchanging.ExchangeFault.{ExchangeFault}
use Rattle.cv_client.specs.declared.exchanging.ExchangeFault.TheVariants.{LinkFailed}
use Rattle.cv_top.specs.Publishes.{begins}
use Rattle.cv_top.proofs.Publishing.{goes_on, ends, breaks, no_memory}
use Rattle.cv_top.proofs.publish.exchange_each.Goals as goal

pub exchanges-init : goal.exchanges-init
exchanges-init g c = record { went = begins; asks = asks_none; later = omega arith }

pub exchanges-preserved : goal.exchanges-preserved
exchanges-preserved g c =
    let first = c.exchanges.invariant.later in
    let then = c.in-Ok-None.ensures.cause.later in
    record {
      went = goes_on c.exchanges.invariant.went c.in-Ok-None.field-0-is c.in-Ok-None.ensures.steps;
      asks = asks_then c.exchanges.invariant.asks c.in-Ok-None.ensures.asks;
      later = omega (arith, first, then);
    }

pub returns-in-Ok-Some-clause-exchanged : goal.returns-in-Ok-Some-clause-exchanged
returns-in-Ok-Some-clause-exchanged g c = ends c.exchanges.invariant.went c.in-Ok-Some.end c.in-Ok-Some.field-0-is c.in-Ok-Some.ensures.steps

pub returns-in-Ok-Some-clause-cause : goal.returns-in-Ok-Some-clause-cause
returns-in-Ok-Some-clause-cause g c =
    let first = c.exchanges.invariant.later in
    let then = c.in-Ok-Some.ensures.cause.later in
    record { later = omega (arith, first, then); failed = λ is. absurd cc }

pub returns-in-Err-clause-exchanged : goal.returns-in-Err-clause-exchanged
returns-in-Err-clause-exchanged g c = breaks c.exchanges.invariant.went c.in-Err.fault c.in-Err.ensures.steps

pub returns-in-Err-clause-cause : goal.returns-in-Err-clause-cause
returns-in-Err-clause-cause g c =
    let first = c.exchanges.invariant.later in
    let then = c.in-Err.ensures.cause.later in
    record {
      later = omega (arith, first, then);
      failed = λ is.
          let same : c.in-Err.fault ≡ LinkFailed = cc in
          let rose : Rose 1 (g.N.Dial.faults c.exchanges.dial) (g.N.Dial.faults c.exchange_once.new.dial) = c.in-Err.ensures.cause.failed (ap (λ (f : ExchangeFault). Err f) same) in
          omega (arith, first, rose);
    }

pub returns-clause-exchanged : goal.returns-clause-exchanged
returns-clause-exchanged g c = no_memory _ c.exchanges.invariant.went

pub returns-clause-cause : goal.returns-clause-cause
returns-clause-cause g c = record { later = c.exchanges.invariant.later; failed = λ is. absurd cc }

pub returns-in-Ok-Some-clause-asks : goal.returns-in-Ok-Some-clause-asks
returns-in-Ok-Some-clause-asks g c = asks_then c.exchanges.invariant.asks c.in-Ok-Some.ensures.asks

pub returns-in-Err-clause-asks : goal.returns-in-Err-clause-asks
returns-in-Err-clause-asks g c = asks_then c.exchanges.invariant.asks c.in-Err.ensures.asks

pub returns-clause-asks : goal.returns-clause-asks
returns-clause-asks g c = c.exchanges.invariant.asks
