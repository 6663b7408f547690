use Rattle.std.proofs.Common.{length}
use Rattle.cv_real.proofs.ahead.ReadAhead.end_all.Given as goal

abbrev pub decreases-loop-reader : goal.decreases-loop-reader
decreases-loop-reader g l = length l.self.readers.items
