use Rattle.cv_swap.proofs.FirstSound.{first_sound}
use Rattle.cv_swap.proofs.laws.first_revisions_are_sound.Goals as goal

pub returns : goal.returns
returns c = first_sound
