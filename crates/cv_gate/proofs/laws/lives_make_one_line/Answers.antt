use Rattle.cv_gate.proofs.Living.{prolongs}
use Rattle.cv_gate.proofs.laws.lives_make_one_line.Goals as goal

pub returns : goal.returns
returns c = prolongs
