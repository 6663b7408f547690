use Rattle.cv_history.proofs.ChainLaws.{one_chain}
use Rattle.cv_history.proofs.laws.an_id_names_one_chain.Goals as goal

pub returns : goal.returns
returns c = λ shelf id n. one_chain shelf n id
