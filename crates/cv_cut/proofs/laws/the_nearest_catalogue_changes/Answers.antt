use Rattle.cv_cut.proofs.Holder.{contents_after, full_after, not_full_after}
use Rattle.cv_cut.proofs.laws.the_nearest_catalogue_changes.Goals as goal

pub returns-clause-contents : goal.returns-clause-contents
returns-clause-contents _ = λ t n p c r d v g rest rows nested without within. contents_after t n p c r d v g rest rows nested without within

pub returns-clause-full : goal.returns-clause-full
returns-clause-full _ = λ t n p c r d v g rest rows nested without within. full_after t n p c r d v g rest rows nested without within

pub returns-clause-not_full : goal.returns-clause-not_full
returns-clause-not_full _ = λ t n p c r d v g rest rows nested without within. not_full_after t n p c r d v g rest rows nested without within
