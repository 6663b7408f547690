use Rattle.std.proofs.Common.{◌≡◌, ◌∷◌, [], ap, subst}
use Rattle.cv_desk.specs.Gate.{StateView}
use Rattle.cv_gate.specs.Desk.{fetched}
use Rattle.cv_desk.specs.OneDesk.{OneDeskView, DoesCalls}
use Rattle.cv_desk.proofs.Desks.{fetches_over}
use Rattle.cv_desk.proofs.one_desk.OneDeskDesk.object.Goals as goal

pub returns-clause-does : goal.returns-clause-does
returns-clause-does g c =
    let inside : OneDeskView g.row.V.Denot g.row.S.Denot = record { gate = c.self.inside.gate; head = c.self.inside.head } in
    subst (λ (d : OneDeskView g.row.V.Denot g.row.S.Denot). DoesCalls g.V.Vault.disk g.V.Vault.count g.V.Vault.left g.S.Signer.is_seal d (fetched c.args.id.now c.object.result ∷ []) (record inside { gate = c.object.new.self })) c.self.view_is
    (fetches_over g.V.Vault.disk g.V.Vault.count g.V.Vault.left g.S.Signer.is_seal inside (g.met.V.Vault.only_now c.self.inside.gate.state.line.vault) c.object.new.self c.args.id.now c.object.result c.object.ensures.looks c.object.ensures.journal c.object.ensures.ready c.object.ensures.told)

pub returns-clause-named : goal.returns-clause-named
returns-clause-named g c =
    let inside : OneDeskView g.row.V.Denot g.row.S.Denot = record { gate = c.self.inside.gate; head = c.self.inside.head } in
    subst (λ (d : OneDeskView g.row.V.Denot g.row.S.Denot). c.object.new.self.state.line.name ≡ d.gate.state.line.name) c.self.view_is
    (ap (λ (s : StateView _ _). s.line.name) c.object.ensures.looks.others)
