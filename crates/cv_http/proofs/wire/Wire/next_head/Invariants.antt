use Rattle.std.proofs.Common.{◌≡◌, ◌≤◌, length, ◌-◌}
use Rattle.cv_http.specs.Wires.{Looks, Beside, Gets}
use Rattle.cv_http.specs.Forms.{AwaitedAs}
use Rattle.cv_http.specs.HeadEndsInner.{NoneWithin}
use Rattle.cv_http.specs.declared.judge.TheConstants.{HEAD_LIMIT}
use Rattle.cv_http.proofs.wire.Wire.next_head.Given as goal

abbrev pub invariant-pieces : goal.invariant-pieces
invariant-pieces g l = record {
  gets : Gets g.R.Source.left g.R.Source.given l.fn.self l.self;
  looks : Looks g.R.Source.left g.R.Source.looks l.fn.self l.self (Beside (g.R.Beside.Sink.passed l.beside) (AwaitedAs g.H.Head.form));
  within : l.seen ≤ length l.self.held;
  none : NoneWithin g.H.Head.form l.seen l.self.held;
  no_read_failed : g.R.Source.faults l.self.source ≡ g.R.Source.faults l.fn.self.source;
}

abbrev pub decreases-pieces : goal.decreases-pieces
decreases-pieces g l = HEAD_LIMIT - length l.self.held
