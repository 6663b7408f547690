use Rattle.cv_gate.proofs.Alone.{all_calls}
use Rattle.cv_gate.proofs.desk_laws.alone_is_in_order.Goals as goal

pub returns : goal.returns
returns c = all_calls
