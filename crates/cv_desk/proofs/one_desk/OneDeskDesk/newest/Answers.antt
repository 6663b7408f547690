use Rattle.std.proofs.Common.{rules, ◌≡◌, ◌∷◌, [], subst}
use Rattle.cv_gate.specs.Desk.{told}
use Rattle.cv_desk.specs.OneDesk.{DoesCalls}
use Rattle.cv_desk.proofs.Desks.{tells_does}
use Rattle.cv_desk.proofs.one_desk.OneDeskDesk.newest.Goals as goal

pub returns-clause-does : goal.returns-clause-does
returns-clause-does g c =
    let same : c.args.self.now.head ≡ c.self.inside.head = search rules in
    subst (λ h. DoesCalls g.V.Vault.disk g.V.Vault.count g.V.Vault.left g.S.Signer.is_seal c.args.self.now (told h ∷ []) c.args.self.now) same (tells_does g.V.Vault.disk g.V.Vault.count g.V.Vault.left g.S.Signer.is_seal c.args.self.now (g.met.V.Vault.only_now c.args.self.now.gate.state.line.vault))
