use Rattle.cv_gate.proofs.Leases.{by_run}
use Rattle.cv_gate.proofs.laws.leases_stay_apart.Goals as goal

pub returns : goal.returns
returns c = by_run
