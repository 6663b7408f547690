use Rattle.std.proofs.Common.{◌≡◌, ◌∙◌, Some, refl, ap, rules, arith, inl}
use Rattle.cv_http.proofs.Lemmas.{gets_same, draws_of, draws_as}
use Rattle.cv_client.proofs.Lemmas.{asks_none, asks_then}
use Rattle.cv_shell.proofs.Streams.{draws_then}
use Rattle.cv_shell.proofs.Running.{at_first, one_more, one_last, none_more, not_read, tired, up_to_date_grows, up_to_date_on}
use Rattle.cv_shell.proofs.serving.serve_lines.Goals as goal

pub turns-init : goal.turns-init
turns-init g c = record {
  so_far = draws_of g.R.Source.left g.R.Source.given c.args.lines.now c.args.lines.now c.args.lines.now _ (gets_same g.R.Source.left g.R.Source.given c.args.lines.now c.args.lines.now refl refl refl) refl
      (at_first (g.S.Signer.is_seal c.args.signer.now) c.args.url.now _ (g.N.Dial.came c.args.dial.now) c.args.resolver.now (g.W.Sink.taken c.args.output.now) (g.R.Source.left c.args.lines.now.source) c.args.lines.now.held
      (λ was look is. inl is));
  flushed = λ was. was;
  no_read_failed = refl;
  no_write_failed = refl;
  asks = asks_none;
  later = omega arith;
}

pub returns-in-Ok-None-clause-shells : goal.returns-in-Ok-None-clause-shells
returns-in-Ok-None-clause-shells g c =
    let so_far =
    up_to_date_on (g.S.Signer.is_seal c.args.signer.now) c.args.url.now g.R.Source.left g.R.Source.given g.R.Source.looks c.args.lines.now (g.N.Dial.came c.args.dial.now) c.args.resolver.now (g.W.Sink.taken c.args.output.now) (g.W.Sink.passed c.args.output.now)
    c.turns.lines c.next_line.new.self c.turns.invariant.so_far c.turns.invariant.flushed c.next_line.ensures.looks in
    draws_then g.R.Source.left g.R.Source.given c.args.lines.now c.turns.lines c.next_line.new.self _ _ _ so_far (rw c.in-Ok-None.field-0-is at c.in-Ok-None.ensures.reads)
    (λ b more told so read. none_more more told so c.next_line.new.self.held read)

pub returns-in-Err-clause-shells : goal.returns-in-Err-clause-shells
returns-in-Err-clause-shells g c =
    let so_far =
    up_to_date_on (g.S.Signer.is_seal c.args.signer.now) c.args.url.now g.R.Source.left g.R.Source.given g.R.Source.looks c.args.lines.now (g.N.Dial.came c.args.dial.now) c.args.resolver.now (g.W.Sink.taken c.args.output.now) (g.W.Sink.passed c.args.output.now)
    c.turns.lines c.next_line.new.self c.turns.invariant.so_far c.turns.invariant.flushed c.next_line.ensures.looks in
    rw c.of_fault.ensures
    (draws_then g.R.Source.left g.R.Source.given c.args.lines.now c.turns.lines c.next_line.new.self _ _ _ so_far c.in-Err.ensures.reads
    (λ b more told so read. not_read more told so c.next_line.new.self.held c.in-Err.fault read))

pub returns-in-Some-clause-shells : goal.returns-in-Some-clause-shells
returns-in-Some-clause-shells g c =
    let same : c.as_slice.result.now ≡ c.in-Ok-Some.line = search rules in
    let so_far =
    up_to_date_on (g.S.Signer.is_seal c.args.signer.now) c.args.url.now g.R.Source.left g.R.Source.given g.R.Source.looks c.args.lines.now (g.N.Dial.came c.args.dial.now) c.args.resolver.now (g.W.Sink.taken c.args.output.now) (g.W.Sink.passed c.args.output.now)
    c.turns.lines c.next_line.new.self c.turns.invariant.so_far c.turns.invariant.flushed c.next_line.ensures.looks in
    draws_then g.R.Source.left g.R.Source.given c.args.lines.now c.turns.lines c.next_line.new.self _ _ _ so_far (rw c.in-Ok-Some.field-0-is at c.in-Ok-Some.ensures.reads)
    (λ b more told so next. one_last more told so next (λ is was. c.in-Some.ensures.held (ap (λ end. Some end) is) ∙ c.turns.invariant.flushed was) (rw same at c.in-Some.ensures.answered))

pub turns-preserved : goal.turns-preserved
turns-preserved g c =
    let same : c.as_slice.result.now ≡ c.in-Ok-Some.line = search rules in
    let dialled = c.serve_line.ensures.links.later in
    let later = c.turns.invariant.later in
    let so_far =
    up_to_date_on (g.S.Signer.is_seal c.args.signer.now) c.args.url.now g.R.Source.left g.R.Source.given g.R.Source.looks c.args.lines.now (g.N.Dial.came c.args.dial.now) c.args.resolver.now (g.W.Sink.taken c.args.output.now) (g.W.Sink.passed c.args.output.now)
    c.turns.lines c.next_line.new.self c.turns.invariant.so_far c.turns.invariant.flushed c.next_line.ensures.looks in
    record {
      so_far = draws_then g.R.Source.left g.R.Source.given c.args.lines.now c.turns.lines c.next_line.new.self _ _ _ so_far (rw c.in-Ok-Some.field-0-is at c.in-Ok-Some.ensures.reads)
          (λ b more told so next. one_more more told so c.serve_line.result c.in_default.not-Some
          (up_to_date_grows (g.S.Signer.is_seal c.args.signer.now) c.args.url.now g.R.Source.left g.R.Source.given g.R.Source.looks c.args.lines.now (g.N.Dial.came c.args.dial.now) c.args.resolver.now (g.W.Sink.taken c.args.output.now) (g.W.Sink.passed c.args.output.now) c.next_line.new.self so.turns)
          next (rw same at c.serve_line.ensures.answered));
      flushed = λ was. c.serve_line.ensures.flushed (λ is. absurd (c.in_default.not-Some _ is)) (c.turns.invariant.flushed was);
      no_read_failed = c.in-Ok-Some.ensures.no_read_failed (λ e. cc) ∙ c.turns.invariant.no_read_failed;
      no_write_failed = c.serve_line.ensures.no_write_failed (λ is. absurd (c.in_default.not-Some _ is)) ∙ c.turns.invariant.no_write_failed;
      asks = asks_then c.turns.invariant.asks c.serve_line.ensures.asks;
      later = omega (arith, dialled, later);
    }

pub returns-clause-shells : goal.returns-clause-shells
returns-clause-shells g c = draws_as g.R.Source.left g.R.Source.given c.args.lines.now c.turns.lines _ _ c.turns.invariant.so_far (λ b so. tired so)

pub returns-in-Some-clause-asks : goal.returns-in-Some-clause-asks
returns-in-Some-clause-asks g c = asks_then c.turns.invariant.asks c.serve_line.ensures.asks
