use Rattle.cv_publisher.proofs.Publishing.{breaks_off}
use Rattle.cv_publisher.proofs.laws.a_lease_is_ended_once_after_a_fault.Goals as goal

pub returns : goal.returns
returns c = breaks_off
