use Rattle.cv_gate.proofs.Readying.{ready_ends}
use Rattle.cv_gate.proofs.laws.a_ready_commit_ends_its_step.Goals as goal

pub returns : goal.returns
returns c = ready_ends
