use Rattle.std.proofs.Common.{rules, ◌≡◌, ◌∙◌, ◌++◌, ◌∷◌, [], ap, sym, subst, None}
use Rattle.cv_gate.specs.declared.reply.Reply.{Reply}
use Rattle.cv_desk.specs.Gate.{GateView}
use Rattle.cv_desk.specs.Begin.{entry_of, EndsBy, EndsWaiting}
use Rattle.cv_desk.specs.declared.waiting.Waiting.{Waiting}
use Rattle.cv_desk.proofs.Taking.{waiting_ended}
use Rattle.cv_desk.proofs.gate.Gate.finish.Goals as goal

pub returns-clause-ends : goal.returns-clause-ends
returns-clause-ends g c = λ w is.
    let inside : GateView g.row.V.Denot g.row.S.Denot = record { state = c.self.inside.state; journal = c.self.inside.journal.items; ready = c.self.inside.ready } in
    let after : GateView g.row.V.Denot g.row.S.Denot = record { state = c.end_ready-answer.new.self; journal = c.note_taken.new.journal.items; ready = c.take.new.self } in
    let idle : c.take.new.self ≡ None = search rules in
    let waiting : Waiting = record { seat = c.in-Some.waiting.seat; now = c.in-Some.waiting.now; key = c.in-Some.waiting.key; act = c.in-Some.waiting.act; token = c.in-Some.waiting.token } in
    let same : waiting ≡ w = search rules in
    let journal : c.note_taken.new.journal.items ≡ c.self.inside.journal.items ++ entry_of waiting c.note_taken.result ∷ [] =
    c.note_taken.ensures.items ∙ ap (λ (r : Reply). c.self.inside.journal.items ++ entry_of waiting r ∷ []) (sym c.note_taken.ensures.told) in
    let by = subst (λ (r : Reply). EndsBy g.V.Vault.disk g.V.Vault.count g.V.Vault.left c.args.go waiting.token inside.state r after.state) (sym c.note_taken.ensures.told) c.end_ready-answer.ensures.ends in
    subst (λ (x : Waiting). EndsWaiting g.V.Vault.disk g.V.Vault.count g.V.Vault.left g.S.Signer.is_seal c.args.go x c.args.self.now after c.note_taken.result) same
    (subst (λ (b : GateView g.row.V.Denot g.row.S.Denot). EndsWaiting g.V.Vault.disk g.V.Vault.count g.V.Vault.left g.S.Signer.is_seal c.args.go waiting b after c.note_taken.result) c.self.view_is
    (waiting_ended g.V.Vault.disk g.V.Vault.count g.V.Vault.left g.S.Signer.is_seal c.args.go waiting inside after c.note_taken.result (g.met.V.Vault.only_now c.self.inside.state.line.vault) journal idle c.end_ready-answer.ensures.same by))
