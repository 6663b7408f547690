use Rattle.cv_gate.proofs.Tokens.{by_run}
use Rattle.cv_gate.proofs.laws.tokens_are_numbered.Goals as goal

pub returns : goal.returns
returns c = by_run
