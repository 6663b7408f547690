use Rattle.std.proofs.Common.{◌∙◌, ap}
use Rattle.cv_desk.specs.Gate.{StateView}
use Rattle.cv_desk.proofs.Taking.{commit_comes, same_aged}
use Rattle.cv_desk.proofs.gate_state.GateState.begin_commit.Goals as goal

pub returns-clause-comes : goal.returns-clause-comes
returns-clause-comes g c = λ types. commit_comes g.V.Vault.disk g.V.Vault.count g.V.Vault.left g.S.Signer.is_seal c.args.self.now c.age.new.self c.ask_commit.new.self c.args.now c.age.ensures (g.met.V.Vault.only_now c.args.self.now.line.vault) c.requires.next
    c.args.key.now c.args.token c.args.old_root.now c.args.offered c.args.tag.now types c.requires.calm (same_aged c.args.self.now c.age.new.self c.ask_commit.new.self c.args.now c.age.ensures c.ask_commit.ensures.same)
    (c.ask_commit.ensures.next ∙ ap (λ (s : StateView _ _). s.next) c.age.ensures) c.ask_commit.result c.ask_commit.ensures.asks
