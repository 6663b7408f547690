use Rattle.std.proofs.Common.{◌≡◌, length, ◌-◌}
use Rattle.cv_http.specs.Wires.{Looks, Beside, Gets}
use Rattle.cv_shell.specs.Lines.{IsLine}
use Rattle.cv_shell.proofs.lines.Lines.next_line.Given as goal

abbrev pub invariant-pieces : goal.invariant-pieces
invariant-pieces g l = record {
  gets : Gets g.R.Source.left g.R.Source.given l.fn.self l.self;
  looks : Looks g.R.Source.left g.R.Source.looks l.fn.self l.self (Beside (g.R.Beside.Sink.passed l.beside) IsLine);
  no_read_failed : g.R.Source.faults l.self.source ≡ g.R.Source.faults l.fn.self.source;
}

abbrev pub decreases-pieces : goal.decreases-pieces
decreases-pieces g l = 8193 - length l.self.held
