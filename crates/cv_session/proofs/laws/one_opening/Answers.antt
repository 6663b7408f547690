use Rattle.cv_session.proofs.OneAsked.{one_opening, one_rest, front_of_asked}
use Rattle.cv_session.proofs.laws.one_opening.Goals as goal

pub returns : goal.returns
returns c = record { fronts = one_opening; left = one_rest; asked = front_of_asked }
