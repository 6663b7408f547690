use Rattle.cv_cut.proofs.Told.{entry_tells, transition_listed}
use Rattle.cv_cut.proofs.laws.entries_name_the_cuts.Goals as goal

pub returns-clause-each : goal.returns-clause-each
returns-clause-each c = entry_tells

pub returns-clause-all : goal.returns-clause-all
returns-clause-all c = transition_listed
