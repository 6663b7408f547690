use Rattle.std.proofs.Common.{◌≡◌, ◌≤◌, ◌-◌, ◌++◌, ◌<◌, length, vec_len}
use Rattle.cv_ports.specs.Streams.{front}
use Rattle.cv_http.specs.Wires.{rest, Draws, Looks, Beside}
use Rattle.cv_http.proofs.wire.Wire.read_body.Given as goal

abbrev pub invariant-parts : goal.invariant-parts
invariant-parts g l = record {
  stream : front l.body.items (rest g.R.Source.left l.self) ≡ rest g.R.Source.left l.fn.self;
  draws : Draws g.R.Source.left g.R.Source.given l.fn.self l.self (λ b. b ≡ l.body.items ++ l.self.held);
  looks : Looks g.R.Source.left g.R.Source.looks l.fn.self l.self (Beside (g.R.Beside.Sink.passed l.beside) (λ b. length b < l.size));
  within : vec_len l.body ≤ l.size;
  no_read_failed : g.R.Source.faults l.self.source ≡ g.R.Source.faults l.fn.self.source;
}

abbrev pub decreases-parts : goal.decreases-parts
decreases-parts g l = l.size - vec_len l.body
