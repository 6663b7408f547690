use Rattle.std.proofs.Common.{subst}
use Rattle.cv_desk.specs.Begin.{Begins}
use Rattle.cv_desk.proofs.Taking.{done_steps, ready_steps}
use Rattle.cv_desk.proofs.gate.Gate.step.Goals as goal

pub returns-in-Done-clause-steps : goal.returns-in-Done-clause-steps
returns-in-Done-clause-steps g c = (done_steps g.V.Vault.disk g.V.Vault.count g.V.Vault.left g.S.Signer.is_seal c.args.op c.args.seat c.args.now c.args.self.now c.begin.new.self c.in-Done.reply
    (subst (Begins g.V.Vault.disk g.V.Vault.count g.V.Vault.left g.S.Signer.is_seal c.args.op c.args.seat c.args.now c.args.self.now c.begin.new.self) c.in-Done.is c.begin.ensures.begins)).0

pub returns-in-Done-clause-idle : goal.returns-in-Done-clause-idle
returns-in-Done-clause-idle g c = (done_steps g.V.Vault.disk g.V.Vault.count g.V.Vault.left g.S.Signer.is_seal c.args.op c.args.seat c.args.now c.args.self.now c.begin.new.self c.in-Done.reply
    (subst (Begins g.V.Vault.disk g.V.Vault.count g.V.Vault.left g.S.Signer.is_seal c.args.op c.args.seat c.args.now c.args.self.now c.begin.new.self) c.in-Done.is c.begin.ensures.begins)).1

pub returns-in-Ready-clause-steps : goal.returns-in-Ready-clause-steps
returns-in-Ready-clause-steps g c = (ready_steps g.V.Vault.disk g.V.Vault.count g.V.Vault.left g.S.Signer.is_seal c.args.op c.args.seat c.args.now c.args.self.now c.begin.new.self c.finish.new.self c.finish.result c.in-Ready.field-0
    (subst (Begins g.V.Vault.disk g.V.Vault.count g.V.Vault.left g.S.Signer.is_seal c.args.op c.args.seat c.args.now c.args.self.now c.begin.new.self) c.in-Ready.is c.begin.ensures.begins) c.finish.ensures.ends).0

pub returns-in-Ready-clause-idle : goal.returns-in-Ready-clause-idle
returns-in-Ready-clause-idle g c = (ready_steps g.V.Vault.disk g.V.Vault.count g.V.Vault.left g.S.Signer.is_seal c.args.op c.args.seat c.args.now c.args.self.now c.begin.new.self c.finish.new.self c.finish.result c.in-Ready.field-0
    (subst (Begins g.V.Vault.disk g.V.Vault.count g.V.Vault.left g.S.Signer.is_seal c.args.op c.args.seat c.args.now c.args.self.now c.begin.new.self) c.in-Ready.is c.begin.ensures.begins) c.finish.ensures.ends).1
