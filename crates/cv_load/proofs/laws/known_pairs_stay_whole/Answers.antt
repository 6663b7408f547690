use Rattle.cv_load.proofs.Knowing.{known_more, known_with, known_with_all}
use Rattle.cv_load.proofs.laws.known_pairs_stay_whole.Goals as goal

pub returns-clause-grown : goal.returns-clause-grown
returns-clause-grown c = known_more

pub returns-clause-added : goal.returns-clause-added
returns-clause-added c = known_with

pub returns-clause-more : goal.returns-clause-more
returns-clause-more c = known_with_all
