use Rattle.std.proofs.Common.{rules}
use Rattle.cv_desk.proofs.States.{state_ended}
use Rattle.cv_desk.proofs.gate_state.GateState.ask_end.Goals as goal

pub invariant_of-self : goal.invariant_of-self
invariant_of-self g c = (state_ended c.args.self.now _ (search rules) c.args.token (search rules), c.self.invariant.1)
