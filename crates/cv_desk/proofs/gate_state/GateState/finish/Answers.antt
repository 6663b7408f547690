use Rattle.std.proofs.Common.{ap, refl}
use Rattle.cv_vault.specs.Replace.{MovedIn}
use Rattle.cv_swap.specs.Line.{LineView}
use Rattle.cv_swap.specs.Stands.{head_name}
use Rattle.cv_desk.proofs.CommitCalls.{on_ok, epoch_kept, state_ended_over, ends_well, ends_badly}
use Rattle.cv_desk.proofs.Knowing.{known_swapped}
use Rattle.cv_desk.proofs.States.{state_same}
use Rattle.cv_desk.proofs.gate_state.GateState.finish.Goals as goal

pub invariant_of-self : goal.invariant_of-self
invariant_of-self g c = (
  state_ended_over (record { line = c.self.inside.line; leases = c.self.inside.leases; moment = c.self.inside.moment; next = c.self.inside.next; known = c.self.inside.known }) _ c.self.invariant.0 c.args.token c.end.ensures.leases refl refl
      (ap (λ (l : LineView _ _). l.epoch) (on_ok c.swap.result c.in-Ok.field-0 c.in-Ok.is c.swap.ensures.ok)),
  known_swapped g.V.Vault.disk g.V.Vault.count g.V.Vault.left c.self.inside.known c.self.inside.line.vault c.swap.new.self.vault c.swap.ensures.silent (λ d. MovedIn d head_name c.self.inside.line.manifest c.swap.result) c.self.inside.line.manifest c.swap.ensures.walks c.self.invariant.1,
)

pub invariant_of-self-in-Err : goal.invariant_of-self-in-Err
invariant_of-self-in-Err g c = (
  state_same (record { line = c.self.inside.line; leases = c.self.inside.leases; moment = c.self.inside.moment; next = c.self.inside.next; known = c.self.inside.known }) _ c.self.invariant.0 refl refl refl
      (epoch_kept c.self.inside.line c.swap.new.self c.swap.result c.in-Err.fault c.in-Err.is c.swap.ensures.failed c.swap.ensures.no_memory),
  known_swapped g.V.Vault.disk g.V.Vault.count g.V.Vault.left c.self.inside.known c.self.inside.line.vault c.swap.new.self.vault c.swap.ensures.silent (λ d. MovedIn d head_name c.self.inside.line.manifest c.swap.result) c.self.inside.line.manifest c.swap.ensures.walks c.self.invariant.1,
)

pub returns-in-Ok-clause-finishes : goal.returns-in-Ok-clause-finishes
returns-in-Ok-clause-finishes g c = ends_well g.V.Vault.disk g.V.Vault.count g.V.Vault.left g.S.Signer.is_seal c.args.self.now c.self.inside.line c.self.inside.leases c.self.inside.moment c.self.inside.next c.self.inside.known c.self.view_is
    c.args.token c.swap.new.self c.swap.result c.in-Ok.field-0 c.in-Ok.is c.swap.ensures.ok c.end.new.self c.end.ensures.leases c.swap.ensures.walks c.head-head.result c.head-head.ensures.newest c.of.result c.of.ensures

pub returns-in-Err-clause-finishes : goal.returns-in-Err-clause-finishes
returns-in-Err-clause-finishes g c = ends_badly g.V.Vault.disk g.V.Vault.count g.V.Vault.left g.S.Signer.is_seal c.args.self.now c.self.inside.line c.self.inside.leases c.self.inside.moment c.self.inside.next c.self.inside.known c.self.view_is
    c.args.token c.swap.new.self c.swap.result c.in-Err.fault c.in-Err.is c.swap.ensures.failed c.swap.ensures.no_memory c.swap.ensures.memory c.swap.ensures.walks c.of_vault.result c.of_vault.ensures
