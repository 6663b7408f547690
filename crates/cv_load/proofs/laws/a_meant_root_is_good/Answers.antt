use Rattle.cv_load.proofs.GoodLaws.{good_root, good_cut}
use Rattle.cv_load.proofs.laws.a_meant_root_is_good.Goals as goal

pub returns-clause-root : goal.returns-clause-root
returns-clause-root c = λ shelf hash t is. good_root is

pub returns-clause-cuts : goal.returns-clause-cuts
returns-clause-cuts c = λ shelf hash t is p cut. good_cut is p cut
