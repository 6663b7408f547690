use Rattle.cv_gate.proofs.Owns.{all_calls}
use Rattle.cv_gate.proofs.desk_laws.own_entries_are_in_order.Goals as goal

pub returns : goal.returns
returns c = all_calls
