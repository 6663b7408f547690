use Rattle.cv_gate.proofs.Crashes.{left_sound}
use Rattle.cv_gate.proofs.laws.crashes_leave_revisions.Goals as goal

pub returns : goal.returns
returns c = left_sound
