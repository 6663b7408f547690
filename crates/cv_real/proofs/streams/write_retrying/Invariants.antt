-- a write that a signal interrupted handed on nothing
use Rattle.std.specs.Io.KnownBytes.{Keeps}
use Rattle.cv_real.proofs.streams.write_retrying.Given as goal

abbrev pub invariant-loop : goal.invariant-loop
invariant-loop g l = Keeps (g.T.Write.contents l.initial.inner) (g.T.Write.contents l.inner)
