use Rattle.std.proofs.Common.{rules, refl, subst, Some}
use Rattle.cv_gate.specs.declared.reply.Reply.TheVariants as reply
use Rattle.cv_desk.specs.Gate.{GateView}
use Rattle.cv_desk.specs.ActingInner.{TakesCourse}
use Rattle.cv_desk.specs.Begin.{Begins, over}
use Rattle.cv_desk.specs.declared.begun.Begun.TheVariants.{Done, Ready}
use Rattle.cv_desk.proofs.Taking.{begun_done, begun_ready}
use Rattle.cv_desk.proofs.gate.Gate.begin.Goals as goal

pub returns-then-len-ge-JOURNAL_LIMIT-clause-begins : goal.returns-then-len-ge-JOURNAL_LIMIT-clause-begins
returns-then-len-ge-JOURNAL_LIMIT-clause-begins g c = over reply.JournalFull (search rules) c.requires.idle (λ commit. refl) (λ calm. calm)

pub returns-in-Done-clause-begins : goal.returns-in-Done-clause-begins
returns-in-Done-clause-begins g c =
    let inside : GateView g.row.V.Denot g.row.S.Denot = record { state = c.self.inside.state; journal = c.self.inside.journal.items; ready = c.self.inside.ready } in
    let after : GateView g.row.V.Denot g.row.S.Denot = record { state = c.take.new.self; journal = c.note_taken.new.journal.items; ready = c.self.inside.ready } in
    subst (λ (b : GateView g.row.V.Denot g.row.S.Denot). Begins g.V.Vault.disk g.V.Vault.count g.V.Vault.left g.S.Signer.is_seal c.args.op c.args.seat c.args.now b after (Done c.note_taken.result)) c.self.view_is
    (begun_done g.V.Vault.disk g.V.Vault.count g.V.Vault.left g.S.Signer.is_seal c.args.op c.args.seat c.args.now c.in-Done.taken inside after c.note_taken.result c.requires.op c.requires.moment (search rules)
    (subst (λ x. TakesCourse g.V.Vault.disk g.V.Vault.count g.V.Vault.left g.S.Signer.is_seal c.args.op c.args.now x c.self.inside.state c.take.new.self) c.in-Done.is c.take.ensures.takes) c.note_taken.ensures.told c.note_taken.ensures.never c.note_taken.ensures.items (search rules))

pub returns-in-Ready-clause-begins : goal.returns-in-Ready-clause-begins
returns-in-Ready-clause-begins g c =
    let inside : GateView g.row.V.Denot g.row.S.Denot = record { state = c.self.inside.state; journal = c.self.inside.journal.items; ready = c.self.inside.ready } in
    let after : GateView g.row.V.Denot g.row.S.Denot = record { state = c.take.new.self; journal = c.self.inside.journal.items; ready = Some (record { seat = c.args.seat; now = c.args.now; key = c.in-Ready.readied.key; act = c.in-Ready.readied.act; token = c.in-Ready.readied.token }) } in
    subst (λ (b : GateView g.row.V.Denot g.row.S.Denot). Begins g.V.Vault.disk g.V.Vault.count g.V.Vault.left g.S.Signer.is_seal c.args.op c.args.seat c.args.now b after (Ready c.in-Ready.readied.head)) c.self.view_is
    (begun_ready g.V.Vault.disk g.V.Vault.count g.V.Vault.left g.S.Signer.is_seal c.args.op c.args.seat c.args.now c.in-Ready.readied inside after c.requires.op c.requires.moment (search rules)
    (subst (λ x. TakesCourse g.V.Vault.disk g.V.Vault.count g.V.Vault.left g.S.Signer.is_seal c.args.op c.args.now x c.self.inside.state c.take.new.self) c.in-Ready.is c.take.ensures.takes) refl refl)
