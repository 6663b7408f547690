use Rattle.cv_session.proofs.SaidOnce.{one_saying, same_saying}
use Rattle.cv_session.proofs.laws.one_saying.Goals as goal

pub returns : goal.returns
returns c = record { fronts = λ repository keys seal. one_saying repository seal keys; whole = λ repository keys seal. same_saying repository seal keys }
