use Rattle.std.proofs.Common.{◌≡◌, ◌∷◌, [], subst}
use Rattle.cv_gate.specs.Desk.{asked}
use Rattle.cv_desk.specs.OneDesk.{OneDeskView, DoesCalls}
use Rattle.cv_desk.proofs.Desks.{ask_does, steps_name}
use Rattle.cv_desk.proofs.one_desk.OneDeskDesk.ask.Goals as goal

pub returns-clause-does : goal.returns-clause-does
returns-clause-does g c =
    let inside : OneDeskView g.row.V.Denot g.row.S.Denot = record { gate = c.self.inside.gate; head = c.self.inside.head } in
    subst (λ (d : OneDeskView g.row.V.Denot g.row.S.Denot). DoesCalls g.V.Vault.disk g.V.Vault.count g.V.Vault.left g.S.Signer.is_seal d (asked c.args.op c.args.now c.step-reply.result ∷ []) (record inside { gate = c.step-reply.new.self; head = c.head-head.result })) c.self.view_is
    (ask_does g.V.Vault.disk g.V.Vault.count g.V.Vault.left g.S.Signer.is_seal inside c.step-reply.new.self c.head-head.result c.args.op c.args.now c.step-reply.result c.head-head.ensures.newest (g.met.V.Vault.only_now c.self.inside.gate.state.line.vault) c.step-reply.ensures.steps)

pub returns-clause-named : goal.returns-clause-named
returns-clause-named g c =
    let inside : OneDeskView g.row.V.Denot g.row.S.Denot = record { gate = c.self.inside.gate; head = c.self.inside.head } in
    subst (λ (d : OneDeskView g.row.V.Denot g.row.S.Denot). c.step-reply.new.self.state.line.name ≡ d.gate.state.line.name) c.self.view_is
    (steps_name g.V.Vault.disk g.V.Vault.count g.V.Vault.left g.S.Signer.is_seal c.args.op 0 c.args.now inside.gate c.step-reply.new.self c.step-reply.result c.step-reply.ensures.steps)
