use Rattle.std.proofs.Common.{◌∷◌, [], subst}
use Rattle.std.specs.Prelude.{MatchResult}
use Rattle.std.specs.declared.option.Option.TheVariants.{None, Some}
use Rattle.cv_gate.specs.Desk.{listed}
use Rattle.cv_desk.specs.OneDesk.{OneDeskView, DoesCalls}
use Rattle.cv_desk.proofs.Desks.{lists_all}
use Rattle.cv_desk.proofs.one_desk.OneDeskDesk.live.Goals as goal

pub returns-clause-does : goal.returns-clause-does
returns-clause-does g c =
    let inside : OneDeskView g.row.V.Denot g.row.S.Denot = record { gate = c.self.inside.gate; head = c.self.inside.head } in
    subst (λ (d : OneDeskView g.row.V.Denot g.row.S.Denot). MatchResult c.live.result (λ lines. DoesCalls g.V.Vault.disk g.V.Vault.count g.V.Vault.left g.S.Signer.is_seal d (listed c.args.now (Some lines.items) ∷ []) d) (λ _. DoesCalls g.V.Vault.disk g.V.Vault.count g.V.Vault.left g.S.Signer.is_seal d (listed c.args.now None ∷ []) d)) c.self.view_is
    (lists_all g.V.Vault.disk g.V.Vault.count g.V.Vault.left g.S.Signer.is_seal inside (g.met.V.Vault.only_now c.self.inside.gate.state.line.vault) c.args.now c.live.result c.live.ensures)
