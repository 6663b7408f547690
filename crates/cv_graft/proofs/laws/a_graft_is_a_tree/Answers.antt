use Rattle.cv_tree.proofs.Laws.{IsTree-put_at}
use Rattle.cv_graft.proofs.laws.a_graft_is_a_tree.Goals as goal

pub returns : goal.returns
returns c = IsTree-put_at
