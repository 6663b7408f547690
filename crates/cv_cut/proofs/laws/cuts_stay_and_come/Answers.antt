use Rattle.cv_cut.proofs.Trees.{cut-out, cut-in}
use Rattle.cv_cut.proofs.laws.cuts_stay_and_come.Goals as goal

pub returns-clause-outside : goal.returns-clause-outside
returns-clause-outside _ = λ t s p c. cut-out t p s c

pub returns-clause-inside : goal.returns-clause-inside
returns-clause-inside _ = cut-in
