use Rattle.cv_gate.proofs.Crashes.{crash_after, crash_before}
use Rattle.cv_gate.proofs.laws.crashes_after_are_crashes_within.Goals as goal

pub returns : goal.returns
returns c = record { after = crash_after; settled = crash_before }
