use Rattle.cv_gate.proofs.Keeping.{lease_place, lease_same}
use Rattle.cv_gate.proofs.laws.leases_keep_their_place.Goals as goal

pub returns : goal.returns
returns c = record { place = lease_place; same = lease_same }
