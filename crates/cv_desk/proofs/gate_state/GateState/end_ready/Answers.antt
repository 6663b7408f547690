use Rattle.std.proofs.Common.{refl, sym, subst}
use Rattle.cv_desk.specs.Begin.{EndsBy}
use Rattle.cv_desk.proofs.gate_state.GateState.end_ready.Goals as goal

pub returns-then-go-clause-ends : goal.returns-then-go-clause-ends
returns-then-go-clause-ends g c = subst (λ b. EndsBy g.V.Vault.disk g.V.Vault.count g.V.Vault.left b c.args.token c.args.self.now c.finish.result c.finish.new.self) (sym c.if-go.true) c.finish.ensures.finishes

pub returns-else-go-clause-ends : goal.returns-else-go-clause-ends
returns-else-go-clause-ends g c = subst (λ b. EndsBy g.V.Vault.disk g.V.Vault.count g.V.Vault.left b c.args.token c.args.self.now c.of.result c.args.self.now) (sym c.if-go.false) (c.of.ensures, refl)
