use Rattle.std.proofs.Common.{rules}
use Rattle.cv_desk.proofs.Knowing.{none_known}
use Rattle.cv_desk.proofs.gate_state.GateState.new.Goals as goal

pub invariant_of-result : goal.invariant_of-result
invariant_of-result g c = (search rules, none_known g.V.Vault.disk c.args.line.vault c.new-2.result c.new-2.ensures)
