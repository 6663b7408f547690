use Rattle.cv_history.proofs.ChainLaws.{one_break}
use Rattle.cv_history.proofs.laws.a_chain_breaks_in_one_way.Goals as goal

pub returns : goal.returns
returns c = λ shelf id n. one_break shelf n id
