use Rattle.std.proofs.Common.{◌≡◌, ◌≤◌}
use Rattle.cv_http.specs.Wires.{Draws}
use Rattle.cv_client.specs.Asking.{AsksFirst}
use Rattle.cv_shell.specs.Shells.{ReadsUpToDate}
use Rattle.cv_shell.proofs.Running.{SoFar}
use Rattle.cv_shell.proofs.serving.serve_lines.Given as goal

abbrev pub invariant-turns : goal.invariant-turns
invariant-turns g l = record {
  so_far : Draws g.R.Source.left g.R.Source.given l.fn.lines l.lines (λ b.
      SoFar (g.S.Signer.is_seal l.fn.signer) l.fn.url
      (ReadsUpToDate (g.S.Signer.is_seal l.fn.signer) l.fn.url g.R.Source.left g.R.Source.looks l.fn.lines l.lines (g.N.Dial.came l.fn.dial) l.fn.resolver (g.W.Sink.taken l.fn.output) (g.W.Sink.passed l.fn.output))
      (g.N.Dial.came l.fn.dial) l.fn.resolver (g.W.Sink.taken l.fn.output)
      (g.R.Source.left l.lines.source) b l.lines.held (g.N.Dial.came l.dial) l.resolver (g.W.Sink.taken l.output));
  flushed : g.W.Sink.passed l.fn.output ≡ g.W.Sink.taken l.fn.output → g.W.Sink.passed l.output ≡ g.W.Sink.taken l.output;
  no_read_failed : g.R.Source.faults l.lines.source ≡ g.R.Source.faults l.fn.lines.source;
  no_write_failed : g.W.Sink.faults l.output ≡ g.W.Sink.faults l.fn.output;
  asks : AsksFirst g.N.Dial.came g.N.Dial.looks l.fn.dial l.dial;
  later : g.N.Dial.faults l.fn.dial ≤ g.N.Dial.faults l.dial;
}
