use Rattle.std.proofs.Common.{◌≡◌, ◌≤◌, ◌-◌}
use Rattle.cv_http.specs.Wires.{Draws}
use Rattle.cv_session.specs.PayloadsInner.{Came, LooksWithin}
use Rattle.cv_session.proofs.Payloads.{Fed_}
use Rattle.cv_session.proofs.payload.read_pack.Given as goal

abbrev pub invariant-pieces : goal.invariant-pieces
invariant-pieces g l = record {
  came : Draws g.R.Source.left g.R.Source.given l.fn.wire l.wire (λ b. Came l.count (Fed_ l.reader l.hasher l.announced.ask.header_size) b l.wire.held);
  looks : LooksWithin g.R.Source.left g.R.Source.looks l.fn.wire l.wire (g.W.Sink.passed l.beside) l.size;
  below : l.count ≤ l.size;
  no_read_failed : g.R.Source.faults l.wire.source ≡ g.R.Source.faults l.fn.wire.source;
}

abbrev pub decreases-pieces : goal.decreases-pieces
decreases-pieces g l = l.size - l.count
