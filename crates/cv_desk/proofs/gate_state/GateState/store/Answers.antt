use Rattle.cv_desk.proofs.Asking.{store_acts}
use Rattle.cv_desk.proofs.Exact.{store_answered}
use Rattle.cv_desk.proofs.gate_state.GateState.store.Goals as goal

pub returns-clause-acts : goal.returns-clause-acts
returns-clause-acts g c = λ digest. store_acts g.V.Vault.disk g.V.Vault.count g.V.Vault.left g.S.Signer.is_seal c.args.self.now c.age.new.self c.ask_store.new.self c.args.now c.age.ensures (g.met.V.Vault.only_now c.args.self.now.line.vault) c.requires.next
    c.args.key.now digest c.args.token c.args.batch.now c.ask_store.result.answer c.ask_store.result.fresh c.requires.named c.ask_store.ensures.asks

pub returns-clause-answered : goal.returns-clause-answered
returns-clause-answered g c = λ digest. store_answered g.V.Vault.disk g.V.Vault.count g.V.Vault.left g.S.Signer.is_seal c.args.key.now digest c.args.token c.args.batch.now c.args.now c.args.self.now c.age.new.self c.ask_store.new.self c.ask_store.result.answer c.ask_store.result.fresh
    c.age.ensures c.requires.named c.ask_store.ensures.kind c.ask_store.ensures.asks
