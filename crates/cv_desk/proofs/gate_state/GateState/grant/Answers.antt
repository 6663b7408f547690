use Rattle.std.proofs.Common.{rules}
use Rattle.cv_desk.proofs.States.{state_granted, lease_is_free, token_is_new, deadline_is_last}
use Rattle.cv_desk.proofs.gate_state.GateState.grant.Goals as goal

pub grant-requires-clause-free : goal.grant-requires-clause-free
grant-requires-clause-free g c = lease_is_free c.args.self.now c.in-Ok.lease c.self.inside.leases c.args.key.now c.args.path.now (search rules) (search rules) (search rules) c.requires.free

pub grant-requires-clause-token : goal.grant-requires-clause-token
grant-requires-clause-token g c = token_is_new c.args.self.now c.in-Ok.lease c.self.inside.leases c.args.key.now c.args.path.now (search rules) (search rules) (search rules)

pub grant-requires-clause-deadline : goal.grant-requires-clause-deadline
grant-requires-clause-deadline g c = deadline_is_last c.args.self.now c.in-Ok.lease c.self.inside.leases c.args.key.now c.args.path.now (search rules) (search rules) (search rules)

pub invariant_of-self : goal.invariant_of-self
invariant_of-self g c = (state_granted c.args.self.now _ (search rules) c.args.key.now c.args.path.now (search rules) (search rules), c.self.invariant.1)
