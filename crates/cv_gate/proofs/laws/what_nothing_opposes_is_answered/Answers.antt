use Rattle.cv_gate.proofs.Completing.{completes}
use Rattle.cv_gate.proofs.laws.what_nothing_opposes_is_answered.Goals as goal

pub returns : goal.returns
returns c = completes
