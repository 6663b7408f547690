use Rattle.cv_session.proofs.OneAsked.{one_asking}
use Rattle.cv_session.proofs.laws.one_asking.Goals as goal

pub returns : goal.returns
returns c = one_asking
