use Rattle.cv_resolver.proofs.Progressing.{begun_blameless}
use Rattle.cv_resolver.proofs.Blames.{fault_names, not_served, bad_object, only_undecoded, bad_catalogue}
use Rattle.cv_resolver.proofs.laws.faults_tell_what_was_given.Goals as goal

pub returns-clause-not_served : goal.returns-clause-not_served
returns-clause-not_served c = not_served

pub returns-clause-bad_object : goal.returns-clause-bad_object
returns-clause-bad_object c = bad_object

pub returns-clause-bad_catalogue : goal.returns-clause-bad_catalogue
returns-clause-bad_catalogue c = only_undecoded

pub returns-clause-undecoded : goal.returns-clause-undecoded
returns-clause-undecoded c = bad_catalogue

pub returns-clause-asked : goal.returns-clause-asked
returns-clause-asked c = begun_blameless

pub returns-clause-named : goal.returns-clause-named
returns-clause-named c = fault_names
