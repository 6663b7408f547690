use Rattle.std.proofs.Common.{◌∙◌, arith, inl, inr, subst, sym}
use Rattle.std.specs.Prelude.{IsSome}
use Rattle.cv_ports.specs.Dial.{Came, came_of}
use Rattle.cv_client.specs.Exchange.{linked, undialled}
use Rattle.cv_client.proofs.Conversing.{back_rose}
use Rattle.cv_client.proofs.Telling.{came_back, linked_once}
use Rattle.cv_client.proofs.exchanging.exchange.Goals as goal

pub returns-in_default-clause-exchanges : goal.returns-in_default-clause-exchanges
returns-in_default-clause-exchanges g c = undialled c.in_default.ensures.failed

pub returns-clause-exchanges : goal.returns-clause-exchanges
returns-clause-exchanges g c =
    let came : Came = came_of g.N.Reads.Source.given g.N.Reads.Source.left g.N.Writes.Sink.taken g.N.Writes.Sink.passed c.converse-link.result.0 in
    linked came c.converse-link.result.1
    (linked_once c.args.url.now came _ (g.N.Dial.came c.args.dial.now) (g.N.Dial.came c.dial.new.self) (g.N.Dial.came c.back.new.self) c.as_str.ensures c.in-Ok.ensures.opened c.back.ensures.came)
    (c.converse-link.ensures.host ∙ c.in-Ok.ensures.host ∙ c.as_str.ensures) (c.converse-link.ensures.port ∙ c.in-Ok.ensures.port)
    (λ told. c.converse-link.ensures.told (record {
      given = c.in-Ok.ensures.given_told told;
      left = c.in-Ok.ensures.left_told told;
      taken = c.in-Ok.ensures.taken_told told;
      passed = subst IsSome (sym c.in-Ok.ensures.passed) (c.in-Ok.ensures.taken_told told);
    }))
    c.converse-link.ensures.converses

pub returns-clause-looks : goal.returns-clause-looks
returns-clause-looks g c = λ look is. elim (c.back.ensures.noted look is) [
  | inl old ↦ inl (c.in-Ok.ensures.unlooked look old)
  | inr new ↦
      let came : Came = came_of g.N.Reads.Source.given g.N.Reads.Source.left g.N.Writes.Sink.taken g.N.Writes.Sink.passed c.converse-link.result.0 in
      let at = c.converse-link.ensures.looks look new in
      inr (record {
        link = came;
        back = came_back c.args.url.now came (g.N.Dial.came c.args.dial.now) (g.N.Dial.came c.back.new.self)
            (linked_once c.args.url.now came _ (g.N.Dial.came c.args.dial.now) (g.N.Dial.came c.dial.new.self) (g.N.Dial.came c.back.new.self) c.as_str.ensures c.in-Ok.ensures.opened c.back.ensures.came);
        behind = record {
          whole = at.whole;
          told = λ told. at.told (subst IsSome (sym c.in-Ok.ensures.passed) (c.in-Ok.ensures.taken_told told));
          got = at.got;
          split = at.split;
          awaits = at.awaits;
        };
      })
]

pub returns-in_default-clause-looks : goal.returns-in_default-clause-looks
returns-in_default-clause-looks g c = λ look is. inl (c.dial.ensures.unlooked look is)

pub returns-clause-cause : goal.returns-clause-cause
returns-clause-cause g c =
    let first = c.in-Ok.ensures.cause.later in
    let next = c.back.ensures.later in
    record {
      later = omega (arith, first, next);
      failed = λ fails.
          back_rose (g.N.Dial.faults c.args.dial.now) (g.N.Dial.faults c.dial.new.self) (g.N.Dial.faults c.back.new.self)
          (g.N.Reads.Source.faults c.converse-link.result.0.reads) (g.N.Writes.Sink.faults c.converse-link.result.0.writes) c.in-Ok.ensures.cause.later
          (rw (c.in-Ok.ensures.reads, c.in-Ok.ensures.writes) at (c.converse-link.ensures.cause fails)) c.back.ensures.counted;
    }
