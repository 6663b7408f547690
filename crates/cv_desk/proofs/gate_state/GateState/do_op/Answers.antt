use Rattle.std.proofs.Common.{rules, ◌≡◌, ◌≤◌, ◌+◌, sym, ap, subst, arith}
use Rattle.cv_swap.specs.Line.{LineView}
use Rattle.cv_gate.specs.declared.act.Act.TheVariants as acts
use Rattle.cv_gate.specs.declared.op.Op.TheVariants as ops
use Rattle.cv_desk.specs.ActingInner.{IsDone}
use Rattle.cv_desk.proofs.Taking.{plain_done, store_done}
use Rattle.cv_desk.proofs.gate_state.GateState.do_op.Goals as goal

pub returns-in-Lease-clause-course : goal.returns-in-Lease-clause-course
returns-in-Lease-clause-course g c =
    let is : c.args.op ≡ ops.Lease c.in-Lease.key c.in-Lease.path = search rules in
    subst (λ o. IsDone g.V.Vault.disk g.V.Vault.count g.V.Vault.left g.S.Signer.is_seal o c.args.now (record { key = c.in-Lease.key; act = acts.Lease c.in-Lease.path; answer = c.lease-answer.result }) c.args.self.now c.lease-answer.new.self) (sym is)
    (plain_done g.V.Vault.disk g.V.Vault.count g.V.Vault.left g.S.Signer.is_seal (ops.Lease c.in-Lease.key c.in-Lease.path) c.args.now _ c.args.self.now c.lease-answer.new.self
    (λ never. never) c.lease-answer.ensures.path (λ e e_key e_act. (e_key, e_act)) c.lease-answer.ensures.acts c.lease-answer.ensures.answered c.lease-answer.ensures.same c.lease-answer.ensures.next)

pub returns-in-Cancel-clause-course : goal.returns-in-Cancel-clause-course
returns-in-Cancel-clause-course g c =
    let is : c.args.op ≡ ops.Cancel c.in-Cancel.key c.in-Cancel.token = search rules in
    let next : c.cancel-answer.new.self.next ≤ c.args.self.now.next + 1 = (let n = c.cancel-answer.ensures.next in omega (arith, n)) in
    subst (λ o. IsDone g.V.Vault.disk g.V.Vault.count g.V.Vault.left g.S.Signer.is_seal o c.args.now (record { key = c.in-Cancel.key; act = acts.Cancel c.in-Cancel.token; answer = c.cancel-answer.result }) c.args.self.now c.cancel-answer.new.self) (sym is)
    (plain_done g.V.Vault.disk g.V.Vault.count g.V.Vault.left g.S.Signer.is_seal (ops.Cancel c.in-Cancel.key c.in-Cancel.token) c.args.now _ c.args.self.now c.cancel-answer.new.self
    (λ never. never) tt (λ e e_key e_act. (e_key, e_act)) c.cancel-answer.ensures.acts c.cancel-answer.ensures.answered
    (record { name_ = ap (λ (l : LineView _ _). l.name) c.cancel-answer.ensures.same; signer_ = ap (λ (l : LineView _ _). l.signer) c.cancel-answer.ensures.same; epoch_ = ap (λ (l : LineView _ _). l.epoch) c.cancel-answer.ensures.same }) next)

pub returns-in-Cancel-clause-cause : goal.returns-in-Cancel-clause-cause
returns-in-Cancel-clause-cause g c = record {
  later = subst (λ l. g.V.Vault.faults c.args.self.now.line.vault ≤ g.V.Vault.faults l.vault) (sym c.cancel-answer.ensures.same) (omega arith);
  failed = λ e. absurd (c.cancel-answer.ensures.failed e);
}

pub returns-in-Store-clause-course : goal.returns-in-Store-clause-course
returns-in-Store-clause-course g c =
    let is : c.args.op ≡ ops.Store c.in-Store.key c.in-Store.token c.in-Store.digest c.as_slice.result.now = search rules in
    let next : c.store-sent.new.self.next ≤ c.args.self.now.next + 1 = (let n = c.store-sent.ensures.next in omega (arith, n)) in
    subst (λ o. IsDone g.V.Vault.disk g.V.Vault.count g.V.Vault.left g.S.Signer.is_seal o c.args.now (record { key = c.in-Store.key; act = c.store_act.result; answer = c.store-sent.result.answer }) c.args.self.now c.store-sent.new.self) (sym is)
    (store_done g.V.Vault.disk g.V.Vault.count g.V.Vault.left g.S.Signer.is_seal c.in-Store.key c.in-Store.digest c.in-Store.token c.as_slice.result.now c.store-sent.result.fresh c.store-sent.result.answer c.args.now c.store_act.result c.args.self.now c.store-sent.new.self
    c.store_act.ensures.digest c.store_act.ensures.act (c.store-sent.ensures.acts c.in-Store.digest) (c.store-sent.ensures.answered c.in-Store.digest) c.store-sent.ensures.same next)
