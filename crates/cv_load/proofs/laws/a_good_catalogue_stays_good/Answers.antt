use Rattle.cv_load.proofs.GoodLaws.{good_more}
use Rattle.cv_load.proofs.laws.a_good_catalogue_stays_good.Goals as goal

pub returns : goal.returns
returns c = λ old new hash place more is. good_more new more is
