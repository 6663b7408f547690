use Rattle.cv_load.proofs.GoodLaws.{none_lacking, none_bad, none_damaged}
use Rattle.cv_load.proofs.laws.nothing_is_in_the_way.Goals as goal

pub returns-clause-lacking : goal.returns-clause-lacking
returns-clause-lacking c = λ shelf hash t is. none_lacking is

pub returns-clause-bad : goal.returns-clause-bad
returns-clause-bad c = λ shelf hash t is. none_bad is

pub returns-clause-damaged : goal.returns-clause-damaged
returns-clause-damaged c = λ shelf hash t is. none_damaged is
