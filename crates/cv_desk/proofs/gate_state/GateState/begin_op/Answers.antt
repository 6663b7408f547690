use Rattle.std.proofs.Common.{sym, subst}
use Rattle.cv_desk.specs.ActingInner.{IsDone, IsReadied, ComesToCommit}
use Rattle.cv_gate.specs.declared.op.Op.TheVariants as ops
use Rattle.cv_desk.proofs.gate_state.GateState.begin_op.Goals as goal

pub returns-in-Ok-clause-course : goal.returns-in-Ok-clause-course
returns-in-Ok-clause-course g c = subst (λ a. IsReadied g.V.Vault.disk g.V.Vault.count g.V.Vault.left g.S.Signer.is_seal (ops.Commit c.args.key c.args.token c.args.old_root c.args.new_root c.args.tag) c.args.now
    (record { key = c.args.key; act = a; token = c.args.token; head = c.in-Ok.head }) c.args.self.now c.begin_commit-begun.new.self) (sym c.commit_act-act.ensures.act)
    (subst (λ r. ComesToCommit g.V.Vault.disk g.V.Vault.count g.V.Vault.left g.S.Signer.is_seal c.args.key c.args.token c.args.old_root c.args.new_root c.args.tag c.args.now c.args.self.now r c.begin_commit-begun.new.self) c.in-Ok.is
    (c.begin_commit-begun.ensures.comes (c.commit_act-act.ensures.old_root, c.commit_act-act.ensures.new_root)))

pub returns-in-Err-clause-course : goal.returns-in-Err-clause-course
returns-in-Err-clause-course g c = subst (λ a. IsDone g.V.Vault.disk g.V.Vault.count g.V.Vault.left g.S.Signer.is_seal (ops.Commit c.args.key c.args.token c.args.old_root c.args.new_root c.args.tag) c.args.now
    (record { key = c.args.key; act = a; answer = c.in-Err.answer }) c.args.self.now c.begin_commit-begun.new.self) (sym c.commit_act-act.ensures.act)
    (subst (λ r. ComesToCommit g.V.Vault.disk g.V.Vault.count g.V.Vault.left g.S.Signer.is_seal c.args.key c.args.token c.args.old_root c.args.new_root c.args.tag c.args.now c.args.self.now r c.begin_commit-begun.new.self) c.in-Err.is
    (c.begin_commit-begun.ensures.comes (c.commit_act-act.ensures.old_root, c.commit_act-act.ensures.new_root)))
