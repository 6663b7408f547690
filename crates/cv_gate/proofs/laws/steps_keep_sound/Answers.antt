use Rattle.cv_gate.proofs.Keeping.{by_settling, by_step, by_run}
use Rattle.cv_gate.proofs.laws.steps_keep_sound.Goals as goal

pub returns : goal.returns
returns c = record { settled = λ st settled h s. (by_settling st settled h s).sound; step = by_step; run = by_run }
