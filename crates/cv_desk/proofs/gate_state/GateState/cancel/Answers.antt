use Rattle.cv_desk.proofs.Asking.{cancel_acts}
use Rattle.cv_desk.proofs.Exact.{end_answered}
use Rattle.cv_desk.proofs.gate_state.GateState.cancel.Goals as goal

pub returns-clause-acts : goal.returns-clause-acts
returns-clause-acts g c = cancel_acts g.V.Vault.disk g.V.Vault.count g.V.Vault.left g.S.Signer.is_seal c.args.self.now c.age.new.self c.ask_end.new.self c.args.now c.age.ensures (g.met.V.Vault.only_now c.args.self.now.line.vault) c.requires.next
    c.args.key.now c.args.token c.ask_end.result c.ask_end.ensures.asks

pub returns-clause-answered : goal.returns-clause-answered
returns-clause-answered g c = end_answered g.V.Vault.disk g.V.Vault.count g.V.Vault.left g.S.Signer.is_seal c.args.key.now c.args.token c.args.now c.args.self.now c.age.new.self c.ask_end.new.self c.ask_end.result c.age.ensures c.ask_end.ensures.asks
