use Rattle.cv_gate.proofs.First.{first_sound, first_kept}
use Rattle.cv_gate.proofs.laws.first_revisions_are_sound.Goals as goal

pub returns : goal.returns
returns c = record { anywhere = first_sound; somewhere = first_kept }
