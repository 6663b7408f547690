use Rattle.std.proofs.Common.{◌≤◌, ◌-◌}
use Rattle.cv_http.specs.ReplyTexts.{Passes, IsAwaitedReply}
use Rattle.cv_http.specs.Wires.{Draws, Looks, Beside}
use Rattle.cv_http.proofs.wire.Wire.final_head.Given as goal

abbrev pub invariant-interim : goal.invariant-interim
invariant-interim g l = record {
  draws : Draws g.R.Source.left g.R.Source.given l.fn.self l.self (λ b. Passes l.passed b l.self.held);
  looks : Looks g.R.Source.left g.R.Source.looks l.fn.self l.self (Beside (g.R.Beside.Sink.passed l.beside) IsAwaitedReply);
  within : l.passed ≤ 17;
  later : g.R.Source.faults l.fn.self.source ≤ g.R.Source.faults l.self.source;
}

abbrev pub decreases-interim : goal.decreases-interim
decreases-interim g l = 17 - l.passed
