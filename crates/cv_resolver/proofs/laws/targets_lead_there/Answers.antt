use Rattle.cv_resolver.proofs.Examples.{relative, own, below_own, other, doubled, top}
use Rattle.cv_resolver.proofs.laws.targets_lead_there.Goals as goal

pub returns-clause-relative : goal.returns-clause-relative
returns-clause-relative c = relative

pub returns-clause-own : goal.returns-clause-own
returns-clause-own c = own

pub returns-clause-below : goal.returns-clause-below
returns-clause-below c = below_own

pub returns-clause-other : goal.returns-clause-other
returns-clause-other c = other

pub returns-clause-doubled : goal.returns-clause-doubled
returns-clause-doubled c = doubled

pub returns-clause-top : goal.returns-clause-top
returns-clause-top c = top
