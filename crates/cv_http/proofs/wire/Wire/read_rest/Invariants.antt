use Rattle.std.proofs.Common.{◌≡◌, ◌≤◌, ◌+◌, ◌-◌, ◌++◌, ◌<◌, length, vec_len}
use Rattle.cv_http.specs.Wires.{Draws, Looks, Beside}
use Rattle.cv_http.specs.declared.wire.TheConstants.{BODY_LIMIT}
use Rattle.cv_http.proofs.wire.Wire.read_rest.Given as goal

abbrev pub invariant-parts : goal.invariant-parts
invariant-parts g l = record {
  draws : Draws g.R.Source.left g.R.Source.given l.fn.self l.self (λ b. b ≡ l.body.items ++ l.self.held);
  looks : Looks g.R.Source.left g.R.Source.looks l.fn.self l.self (Beside (g.R.Beside.Sink.passed l.beside) (λ b. length b < BODY_LIMIT + 1));
  within : vec_len l.body ≤ BODY_LIMIT;
  later : g.R.Source.faults l.fn.self.source ≤ g.R.Source.faults l.self.source;
}

abbrev pub decreases-parts : goal.decreases-parts
decreases-parts g l = BODY_LIMIT - vec_len l.body
