use Rattle.std.proofs.Common.{length, ◌-◌, ◌≡◌, ◌≤◌, take}
use Rattle.cv_ports.specs.Streams.{onto}
use Rattle.cv_ports.proofs.sink.write_all.Given as goal

abbrev pub invariant-writes : goal.invariant-writes
invariant-writes g l = record {
  within : l.written ≤ length l.bytes;
  taken : g.W.Sink.taken l.sink ≡ onto (g.W.Sink.taken l.fn.sink) (take l.written l.bytes);
  held : g.W.Sink.passed l.sink ≡ g.W.Sink.passed l.fn.sink;
  no_write_failed : g.W.Sink.faults l.sink ≡ g.W.Sink.faults l.fn.sink;
}

abbrev pub decreases-writes : goal.decreases-writes
decreases-writes g l = length l.bytes - l.written
