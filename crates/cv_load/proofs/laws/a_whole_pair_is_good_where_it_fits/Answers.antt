use Rattle.cv_load.proofs.GoodLaws.{good_whole, whole_good}
use Rattle.cv_load.proofs.laws.a_whole_pair_is_good_where_it_fits.Goals as goal

pub returns-clause-fits : goal.returns-clause-fits
returns-clause-fits c = λ shelf hash place d is has. good_whole place d is has

pub returns-clause-path : goal.returns-clause-path
returns-clause-path c = λ shelf hash place is. whole_good place is
