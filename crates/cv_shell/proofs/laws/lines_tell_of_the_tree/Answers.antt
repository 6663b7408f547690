use Rattle.cv_shell.proofs.Telling.{lines_tell}
use Rattle.cv_shell.proofs.laws.lines_tell_of_the_tree.Goals as goal

pub returns : goal.returns
returns c = λ is_seal u first l left b rest turns before last runs. lines_tell is_seal u first l runs
