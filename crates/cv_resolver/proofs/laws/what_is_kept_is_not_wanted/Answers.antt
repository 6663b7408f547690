use Rattle.cv_resolver.proofs.Progressing.{begun_uncached, given_uncached}
use Rattle.cv_resolver.proofs.laws.what_is_kept_is_not_wanted.Goals as goal

pub returns-clause-asked : goal.returns-clause-asked
returns-clause-asked c = begun_uncached

pub returns-clause-given : goal.returns-clause-given
returns-clause-given c = given_uncached
