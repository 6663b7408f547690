use Rattle.std.proofs.Common.{rules, ◌≡◌, subst, Ok}
use Rattle.cv_desk.specs.ActingInner.{Settles}
use Rattle.cv_desk.proofs.CommitCalls.{on_ok}
use Rattle.cv_desk.proofs.Taking.{takes_course, takes_waiting}
use Rattle.cv_desk.proofs.gate_state.GateState.take.Goals as goal

pub returns-in-Ok-clause-takes : goal.returns-in-Ok-clause-takes
returns-in-Ok-clause-takes g c =
    let is : c.settle.result ≡ Ok tt = search rules in
    takes_course g.V.Vault.disk g.V.Vault.count g.V.Vault.left g.S.Signer.is_seal c.args.op c.args.now c.args.self.now c.settle.new.self c.do_op.new.self c.settle.ensures.same c.settle.ensures.next c.requires.next
    (on_ok c.settle.result tt is c.settle.ensures.certain) c.settle.ensures.keeps (on_ok c.settle.result tt is c.settle.ensures.resumes)
    (λ st stands. subst (λ r. Settles g.V.Vault.disk g.V.Vault.count g.V.Vault.left g.S.Signer.is_seal c.args.self.now r c.settle.new.self st) is (c.settle.ensures.settles st stands)) c.do_op.result c.do_op.ensures.course

pub returns-in-Err-clause-takes : goal.returns-in-Err-clause-takes
returns-in-Err-clause-takes g c = takes_waiting g.V.Vault.disk g.V.Vault.count g.V.Vault.left g.S.Signer.is_seal c.args.op c.args.now c.args.self.now c.settle.new.self c.settle.new.self c.settle.ensures.same c.settle.ensures.next c.requires.next c.decline.result
    c.in-Err.fault (c.settle.ensures.awaits c.in-Err.fault c.in-Err.is)
    (λ st stands. subst (λ r. Settles g.V.Vault.disk g.V.Vault.count g.V.Vault.left g.S.Signer.is_seal c.args.self.now r c.settle.new.self st) c.in-Err.is (c.settle.ensures.settles st stands)) c.decline.ensures.types c.decline.ensures.records (search rules)
