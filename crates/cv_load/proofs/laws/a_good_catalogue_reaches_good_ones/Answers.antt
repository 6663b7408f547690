use Rattle.cv_load.proofs.GoodLaws.{good_below, good_lacks_nothing, good_is_not_bad, good_is_not_damaged}
use Rattle.cv_load.proofs.laws.a_good_catalogue_reaches_good_ones.Goals as goal

pub returns-clause-below : goal.returns-clause-below
returns-clause-below c = λ shelf from hash start place is reached. good_below is reached

pub returns-clause-lacking : goal.returns-clause-lacking
returns-clause-lacking c = λ shelf from start x is lacks. good_lacks_nothing is lacks.0 lacks.1

pub returns-clause-bad : goal.returns-clause-bad
returns-clause-bad c = λ shelf from start x is bad. good_is_not_bad x is bad

pub returns-clause-damaged : goal.returns-clause-damaged
returns-clause-damaged c = λ shelf from start id found is h. good_is_not_damaged is h.kind h.reached h.damage
