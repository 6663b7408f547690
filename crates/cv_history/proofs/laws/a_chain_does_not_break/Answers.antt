use Rattle.cv_history.proofs.ChainLaws.{no_break}
use Rattle.cv_history.proofs.laws.a_chain_does_not_break.Goals as goal

pub returns : goal.returns
returns c = λ shelf id n. no_break shelf n id
