use Rattle.cv_load.proofs.NewFetching.{fetched_new}
use Rattle.cv_load.proofs.laws.a_known_set_adds_no_fetch.Goals as goal

pub returns : goal.returns
returns c = fetched_new
