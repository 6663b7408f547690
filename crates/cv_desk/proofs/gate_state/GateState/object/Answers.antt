use Rattle.std.proofs.Common.{ap, refl}
use Rattle.cv_swap.specs.Line.{LineView}
use Rattle.cv_desk.proofs.Knowing.{known_read}
use Rattle.cv_desk.proofs.States.{state_same}
use Rattle.cv_desk.proofs.gate_state.GateState.object.Goals as goal

pub invariant_of-self : goal.invariant_of-self
invariant_of-self g c = (
  state_same (record { line = c.self.inside.line; leases = c.self.inside.leases; moment = c.self.inside.moment; next = c.self.inside.next; known = c.self.inside.known }) _ c.self.invariant.0 refl refl refl (ap (λ (l : LineView _ _). l.epoch) c.fetch.ensures.reads.1),
  known_read g.V.Vault.disk g.V.Vault.count g.V.Vault.left c.self.inside.known c.self.inside.line.vault c.fetch.new.self.vault c.fetch.ensures.reads.0 c.self.invariant.1,
)
