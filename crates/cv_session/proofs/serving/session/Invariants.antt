use Rattle.std.proofs.Common.{◌≡◌, ◌<◌, ◌≤◌, ◌-◌}
use Rattle.cv_http.specs.Wires.{Draws}
use Rattle.cv_session.specs.Sessions.{ReadsUpToDate}
use Rattle.cv_session.specs.Standing.{standing}
use Rattle.cv_session.proofs.Sessioning.{SoFar}
use Rattle.cv_session.proofs.serving.session.Given as goal

abbrev pub invariant-requests : goal.invariant-requests
invariant-requests g l = record {
  so_far : Draws g.R.Source.left g.R.Source.given l.fn.wire l.wire (λ b.
      SoFar g.K.Desk.does (g.K.Desk.named l.fn.desk) l.fn.keys (g.S.Signer.seal_of l.fn.signer)
      (ReadsUpToDate (g.K.Desk.named l.fn.desk) l.fn.keys (g.S.Signer.seal_of l.fn.signer) g.R.Source.left g.R.Source.looks l.fn.wire l.wire (g.W.Sink.taken l.fn.sink) (g.W.Sink.passed l.fn.sink)) b l.wire.held (g.W.Sink.taken l.fn.sink)
      (standing l.fn.desk (g.C.Clock.moments l.fn.clock) (g.K.Desk.faults l.fn.desk)) l.count (g.W.Sink.taken l.sink)
      (standing l.desk (g.C.Clock.moments l.clock) (g.K.Desk.faults l.desk)));
  below : l.count < 1000;
  named : g.K.Desk.named l.desk ≡ g.K.Desk.named l.fn.desk;
  flushed : g.W.Sink.passed l.fn.sink ≡ g.W.Sink.taken l.fn.sink → g.W.Sink.passed l.sink ≡ g.W.Sink.taken l.sink;
  no_read_failed : g.R.Source.faults l.wire.source ≡ g.R.Source.faults l.fn.wire.source;
  no_write_failed : g.W.Sink.faults l.sink ≡ g.W.Sink.faults l.fn.sink;
  counted : g.K.Desk.faults l.fn.desk ≤ g.K.Desk.faults l.desk;
}

abbrev pub decreases-requests : goal.decreases-requests
decreases-requests g l = 1000 - l.count
