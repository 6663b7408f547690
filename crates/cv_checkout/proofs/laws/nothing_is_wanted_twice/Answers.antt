use Rattle.cv_checkout.proofs.Counting.{not_again, wanted_once}
use Rattle.cv_checkout.proofs.laws.nothing_is_wanted_twice.Goals as goal

pub returns-clause-taken : goal.returns-clause-taken
returns-clause-taken c = wanted_once

pub returns-clause-kept : goal.returns-clause-kept
returns-clause-kept c = not_again
