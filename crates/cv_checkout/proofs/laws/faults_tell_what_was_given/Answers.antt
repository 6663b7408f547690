use Rattle.cv_checkout.proofs.Gifts.{catalogue_bad, object_bad, served_not, unsuited_told}
use Rattle.cv_checkout.proofs.laws.faults_tell_what_was_given.Goals as goal

pub returns-clause-not_served : goal.returns-clause-not_served
returns-clause-not_served c = λ s new given r id next g. served_not s new given id next r g

pub returns-clause-bad_object : goal.returns-clause-bad_object
returns-clause-bad_object c = λ s new given r id found next g. object_bad s new given id next found r g

pub returns-clause-bad_catalogue : goal.returns-clause-bad_catalogue
returns-clause-bad_catalogue c = λ s new given r id g h. catalogue_bad s new given id r g h

pub returns-clause-unsuited : goal.returns-clause-unsuited
returns-clause-unsuited c = λ s new given r id next g u. unsuited_told s new given id next r g u
