use Rattle.std.proofs.Common.{◌∙◌, ap, refl}
use Rattle.cv_publisher.specs.Taking.{behind_lease, lease_lost, lease_said}
use Rattle.cv_publisher.proofs.stepping.after_lease.Goals as goal

pub returns-in-Ok : goal.returns-in-Ok
returns-in-Ok c = lease_said (c.behind_lease.ensures ∙ ap behind_lease c.in-Ok.ensures)

pub returns-in-Err : goal.returns-in-Err
returns-in-Err c = lease_lost refl
