use Rattle.cv_session.proofs.OneAsked.{one_want}
use Rattle.cv_session.proofs.laws.one_turn.Goals as goal

pub returns : goal.returns
returns c = one_want
