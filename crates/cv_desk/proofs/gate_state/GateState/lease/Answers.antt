use Rattle.cv_desk.proofs.Asking.{lease_acts}
use Rattle.cv_desk.proofs.Exact.{lease_answered}
use Rattle.cv_desk.proofs.gate_state.GateState.lease.Goals as goal

pub returns-clause-acts : goal.returns-clause-acts
returns-clause-acts g c = lease_acts g.V.Vault.disk g.V.Vault.count g.V.Vault.left g.S.Signer.is_seal c.args.self.now c.age.new.self c.ask_lease.new.self c.args.now c.age.ensures (g.met.V.Vault.only_now c.args.self.now.line.vault) c.requires.next
    c.args.key.now c.args.path.now c.ask_lease.result c.ask_lease.ensures.asks

pub returns-clause-answered : goal.returns-clause-answered
returns-clause-answered g c = lease_answered g.V.Vault.disk g.V.Vault.count g.V.Vault.left g.S.Signer.is_seal c.args.key.now c.args.path.now c.args.now c.args.self.now c.age.new.self c.ask_lease.new.self c.ask_lease.result
    c.age.ensures c.ask_lease.ensures.asks c.ask_lease.ensures.damage
