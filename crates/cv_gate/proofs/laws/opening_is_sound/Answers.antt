use Rattle.cv_gate.proofs.Crashes.{kept_of, opened}
use Rattle.cv_gate.proofs.laws.opening_is_sound.Goals as goal

pub returns : goal.returns
returns c = record { kept = kept_of; opened = opened }
