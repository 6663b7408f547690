use Rattle.cv_swap.proofs.Prefixes.{sound_front}
use Rattle.cv_swap.proofs.laws.sound_revisions_were_sound.Goals as goal

pub returns : goal.returns
returns c = sound_front
