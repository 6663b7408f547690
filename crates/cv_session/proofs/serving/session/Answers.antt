use Rattle.std.proofs.Common.{◌≡◌, ◌∙◌, ◌+◌, refl, ap, Err, arith}
use Rattle.cv_http.specs.declared.fault.HttpFault.TheVariants.{Short, ReadFault as Unread_}
use Rattle.cv_http.proofs.Lemmas.{draws_none, draws_then}
use Rattle.cv_session.specs.declared.request.Unread.TheVariants.{Fault, Unsaid}
use Rattle.cv_session.specs.declared.session_end.SessionEnd.TheVariants.{Clean, Bad, ReadFault, WriteFault}
use Rattle.cv_session.specs.Sessions.{ReadsUpToDate}
use Rattle.cv_session.proofs.Endings.{not_clean, by_short, by_read_fault, by_unsaid, ends_unread, goes_below, not_by_reading}
use Rattle.cv_session.proofs.Sessioning.{begin, so_more, up_to_date_none, up_to_date_on, up_to_date_grows, clean_end, other_end, answered_one}
use Rattle.cv_session.proofs.serving.session.Goals as goal

pub requests-init : goal.requests-init
requests-init g c = record {
  so_far = draws_none g.R.Source.left g.R.Source.given c.args.wire.now _ (begin g.K.Desk.does g.met.K.Desk.does_none (g.K.Desk.named c.args.desk.now) c.args.keys.now (g.S.Signer.seal_of c.args.signer.now)
      (ReadsUpToDate (g.K.Desk.named c.args.desk.now) c.args.keys.now (g.S.Signer.seal_of c.args.signer.now) g.R.Source.left g.R.Source.looks c.args.wire.now c.args.wire.now (g.W.Sink.taken c.args.sink.now) (g.W.Sink.passed c.args.sink.now)) (up_to_date_none g.R.Source.left g.R.Source.looks c.args.wire.now) c.args.wire.now.held (g.W.Sink.taken c.args.sink.now) _);
  below = omega arith;
  named = refl;
  flushed = λ was. was;
  no_read_failed = refl;
  no_write_failed = refl;
  counted = omega arith;
}

pub returns-in-Ok-None-clause-session : goal.returns-in-Ok-None-clause-session
returns-in-Ok-None-clause-session g c =
    draws_then g.R.Source.left g.R.Source.given _ _ _ _ _ _ (up_to_date_on g.R.Source.left g.R.Source.looks c.args.wire.now g.R.Source.given c.requests.wire c.next_asked.new.wire c.requests.invariant.so_far c.requests.invariant.flushed c.next_asked.ensures.looks) (rw c.in-Ok-None.field-0-is at c.in-Ok-None.ensures.gets) (λ b more s gets.
    clean_end g.met.K.Desk.does_none g.met.K.Desk.does_more (up_to_date_grows g.R.Source.left g.R.Source.looks c.args.wire.now c.next_asked.new.wire) (so_more more s) (c.name.ensures ∙ c.requests.invariant.named) gets)

pub returns-in-Err-clause-session : goal.returns-in-Err-clause-session
returns-in-Err-clause-session g c =
    draws_then g.R.Source.left g.R.Source.given _ _ _ _ _ _ (up_to_date_on g.R.Source.left g.R.Source.looks c.args.wire.now g.R.Source.given c.requests.wire c.next_asked.new.wire c.requests.invariant.so_far c.requests.invariant.flushed c.next_asked.ensures.looks) c.in-Err.ensures.gets (λ b more s gets.
    other_end g.met.K.Desk.does_none g.met.K.Desk.does_more (up_to_date_grows g.R.Source.left g.R.Source.looks c.args.wire.now c.next_asked.new.wire) (so_more more s) (c.name.ensures ∙ c.requests.invariant.named) gets
    (λ is was. c.in-Err.ensures.held (ap (λ why. Err why) is) ∙ c.requests.invariant.flushed was)
    (λ other was. c.in-Err.ensures.flushed (λ e. let same : c.in-Err.why ≡ Unsaid = cc in other same) (c.requests.invariant.flushed was))
    c.refuse.ensures.held c.refuse.ensures.ends)

pub returns-in-Some-clause-session : goal.returns-in-Some-clause-session
returns-in-Some-clause-session g c =
    draws_then g.R.Source.left g.R.Source.given _ _ _ _ _ _ (up_to_date_on g.R.Source.left g.R.Source.looks c.args.wire.now g.R.Source.given c.requests.wire c.next_asked.new.wire c.requests.invariant.so_far c.requests.invariant.flushed c.next_asked.ensures.looks) (rw c.in-Ok-Some.field-0-is at c.in-Ok-Some.ensures.gets) (λ b more s gets.
    answered_one g.met.K.Desk.does_none g.met.K.Desk.does_more (up_to_date_grows g.R.Source.left g.R.Source.looks c.args.wire.now c.next_asked.new.wire) (so_more more s) (c.name.ensures ∙ c.requests.invariant.named) c.requests.invariant.named gets c.ends_with-last.ensures
    (λ was. c.in-Ok-Some.ensures.flushed (λ e. cc) (c.requests.invariant.flushed was)) c.in-Some.ensures.held c.in-Some.ensures.handles)

pub returns-in-Some-clause-nothing_left : goal.returns-in-Some-clause-nothing_left
returns-in-Some-clause-nothing_left g c = λ is. absurd (not_by_reading Clean refl c.in-Some.ensures.handles is)

pub returns-in-Some-clause-cut : goal.returns-in-Some-clause-cut
returns-in-Some-clause-cut g c = λ is. absurd (not_by_reading (Bad Short) refl c.in-Some.ensures.handles is)

pub returns-in-Some-clause-reads : goal.returns-in-Some-clause-reads
returns-in-Some-clause-reads g c = record {
  later = let read = c.next_asked.ensures.reads.later in let was = c.requests.invariant.no_read_failed in omega (arith, read, was);
  failed = λ is. absurd (not_by_reading ReadFault refl c.in-Some.ensures.handles is);
}

pub requests-preserved : goal.requests-preserved
requests-preserved g c = record {
  so_far = draws_then g.R.Source.left g.R.Source.given _ _ _ _ _ _ (up_to_date_on g.R.Source.left g.R.Source.looks c.args.wire.now g.R.Source.given c.requests.wire c.next_asked.new.wire c.requests.invariant.so_far c.requests.invariant.flushed c.next_asked.ensures.looks) (rw c.in-Ok-Some.field-0-is at c.in-Ok-Some.ensures.gets) (λ b more s gets.
      answered_one g.met.K.Desk.does_none g.met.K.Desk.does_more (up_to_date_grows g.R.Source.left g.R.Source.looks c.args.wire.now c.next_asked.new.wire) (so_more more s) (c.name.ensures ∙ c.requests.invariant.named) c.requests.invariant.named gets c.ends_with-last.ensures
      (λ was. c.in-Ok-Some.ensures.flushed (λ e. cc) (c.requests.invariant.flushed was)) c.in-None.ensures.held c.in-None.ensures.handles);
  below = let not = goes_below c.in-Ok-Some.asked.last (c.requests.count + 1) c.ends_with-last.ensures c.in-None.ensures.handles in omega (arith, not);
  named = c.in-None.ensures.named ∙ c.requests.invariant.named;
  flushed = λ was. c.in-None.ensures.flushed (λ e. cc) (c.in-Ok-Some.ensures.flushed (λ e. cc) (c.requests.invariant.flushed was));
  no_read_failed = c.in-Ok-Some.ensures.no_read_failed (λ e. cc) ∙ c.requests.invariant.no_read_failed;
  no_write_failed = c.in-None.ensures.no_write_failed (λ e. cc) ∙ (c.in-Ok-Some.ensures.no_write_failed (λ e. cc) ∙ c.requests.invariant.no_write_failed);
  counted = let more = c.in-None.ensures.later in let was = c.requests.invariant.counted in omega (arith, more, was);
}

pub returns-in-Err-clause-nothing_left : goal.returns-in-Err-clause-nothing_left
returns-in-Err-clause-nothing_left g c = λ is. absurd (not_clean c.refuse.ensures.ends is)

pub returns-in-Err-clause-cut : goal.returns-in-Err-clause-cut
returns-in-Err-clause-cut g c = λ is. c.next_asked.ensures.cut (c.in-Err.is ∙ ap (λ why. Err why) (by_short c.refuse.ensures.ends is))

pub returns-in-Err-clause-reads : goal.returns-in-Err-clause-reads
returns-in-Err-clause-reads g c = record {
  later = let read = c.next_asked.ensures.reads.later in let was = c.requests.invariant.no_read_failed in omega (arith, read, was);
  failed = λ is.
      let rose = c.next_asked.ensures.reads.failed (c.in-Err.is ∙ ap (λ why. Err why) (by_read_fault c.refuse.ensures.ends is)) in
      let was = c.requests.invariant.no_read_failed in omega (arith, rose, was);
}

pub returns-in-Some-clause-flushed : goal.returns-in-Some-clause-flushed
returns-in-Some-clause-flushed g c = λ written was.
    c.in-Some.ensures.flushed (λ e. let same : c.in-Some.end ≡ WriteFault = cc in written same) (c.in-Ok-Some.ensures.flushed (λ e. cc) (c.requests.invariant.flushed was))

pub returns-in-Err-clause-flushed : goal.returns-in-Err-clause-flushed
returns-in-Err-clause-flushed g c = λ written was.
    c.refuse.ensures.flushed written
    (c.in-Err.ensures.flushed (λ e. let same : c.in-Err.why ≡ Unsaid = cc in written (by_unsaid c.refuse.ensures.ends same)) (c.requests.invariant.flushed was))

pub returns-in-Err-clause-no_read_failed : goal.returns-in-Err-clause-no_read_failed
returns-in-Err-clause-no_read_failed g c = λ not.
    c.in-Err.ensures.no_read_failed (λ is. not (ends_unread c.refuse.ensures.ends (let why : c.in-Err.why ≡ Fault Unread_ = cc in why)))
    ∙ c.requests.invariant.no_read_failed
