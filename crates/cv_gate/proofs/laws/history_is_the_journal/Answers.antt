use Rattle.cv_gate.proofs.Growth.{from_any, from_certain}
use Rattle.cv_gate.proofs.laws.history_is_the_journal.Goals as goal

pub returns : goal.returns
returns c = record { any = from_any; certain = from_certain }
