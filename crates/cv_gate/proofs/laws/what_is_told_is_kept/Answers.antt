use Rattle.cv_gate.proofs.Crashes.{after_stored, after_committed}
use Rattle.cv_gate.proofs.laws.what_is_told_is_kept.Goals as goal

pub returns : goal.returns
returns c = record { stored = after_stored; committed = after_committed }
