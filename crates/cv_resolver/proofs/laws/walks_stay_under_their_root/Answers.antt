use Rattle.cv_resolver.proofs.Grounds.{begun_kept, begun_under, given_kept, given_under}
use Rattle.cv_resolver.proofs.laws.walks_stay_under_their_root.Goals as goal

pub returns-clause-kept : goal.returns-clause-kept
returns-clause-kept c = begun_kept

pub returns-clause-still_kept : goal.returns-clause-still_kept
returns-clause-still_kept c = given_kept

pub returns-clause-asked : goal.returns-clause-asked
returns-clause-asked c = begun_under

pub returns-clause-given : goal.returns-clause-given
returns-clause-given c = given_under
