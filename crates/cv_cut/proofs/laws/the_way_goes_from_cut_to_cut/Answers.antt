use Rattle.cv_cut.proofs.Fitting.{passes_of}
use Rattle.cv_cut.proofs.laws.the_way_goes_from_cut_to_cut.Goals as goal

pub returns : goal.returns
returns _ = λ t p c r way far. passes_of t p c r way.is way.cut far
