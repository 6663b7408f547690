use Rattle.std.proofs.Common.{rules}
use Rattle.cv_desk.proofs.States.{state_aged}
use Rattle.cv_desk.proofs.gate_state.GateState.age.Goals as goal

pub invariant_of-self : goal.invariant_of-self
invariant_of-self g c = (state_aged c.args.self.now _ (search rules) c.args.now c.requires (search rules), c.self.invariant.1)
