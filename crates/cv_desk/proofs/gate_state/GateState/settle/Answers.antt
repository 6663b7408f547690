use Rattle.std.proofs.Common.{rules, ◌≡◌, refl, ap}
use Rattle.cv_vault.specs.Replace.{Found}
use Rattle.cv_vault.proofs.Laws.{stand}
use Rattle.cv_swap.specs.Line.{LineView, swapped}
use Rattle.cv_swap.specs.Stands.{head_name}
use Rattle.cv_swap.specs.declared.stage.Stage.TheVariants as stage
use Rattle.cv_desk.specs.Gate.{StateView}
use Rattle.cv_desk.specs.Resuming.{certain}
use Rattle.cv_desk.proofs.States.{state_same}
use Rattle.cv_desk.proofs.Knowing.{known_settled}
use Rattle.cv_desk.proofs.Settling.{settles_calm}
use Rattle.cv_desk.proofs.Recovering.{recovers_over, recovers_not, recovers_unmade, recovers_made, awaits_over, resumes_lost, resumes_came}
use Rattle.cv_desk.proofs.gate_state.GateState.settle.Goals as goal

pub invariant_of-self : goal.invariant_of-self
invariant_of-self g c =
    let others : c.recover.new.self ≡ swapped c.self.inside.line c.recover.new.self.vault = search rules in (
      state_same (record { line = c.self.inside.line; leases = c.self.inside.leases; moment = c.self.inside.moment; next = c.self.inside.next; known = c.self.inside.known }) _ c.self.invariant.0 refl refl refl (ap (λ (l : LineView _ _). l.epoch) others),
      known_settled g.V.Vault.disk g.V.Vault.count g.V.Vault.left c.self.inside.known c.self.inside.line.vault c.recover.new.self.vault c.recover.ensures.silent (λ d. Found head_name c.self.inside.line.manifest c.recover.result) c.recover.ensures.walks c.self.invariant.1,
    )

pub invariant_of-self-in-Ok-false : goal.invariant_of-self-in-Ok-false
invariant_of-self-in-Ok-false g c =
    let others : c.recover.new.self ≡ record c.self.inside.line { vault = c.recover.new.self.vault; stage = stage.Calm } = search rules in (
      state_same (record { line = c.self.inside.line; leases = c.self.inside.leases; moment = c.self.inside.moment; next = c.self.inside.next; known = c.self.inside.known }) _ c.self.invariant.0 refl refl refl (ap (λ (l : LineView _ _). l.epoch) others),
      known_settled g.V.Vault.disk g.V.Vault.count g.V.Vault.left c.self.inside.known c.self.inside.line.vault c.recover.new.self.vault c.recover.ensures.silent (λ d. Found head_name c.self.inside.line.manifest c.recover.result) c.recover.ensures.walks c.self.invariant.1,
    )

pub invariant_of-self-in-Err : goal.invariant_of-self-in-Err
invariant_of-self-in-Err g c =
    let others : c.recover.new.self ≡ record c.self.inside.line { vault = c.recover.new.self.vault } = search rules in (
      state_same (record { line = c.self.inside.line; leases = c.self.inside.leases; moment = c.self.inside.moment; next = c.self.inside.next; known = c.self.inside.known }) _ c.self.invariant.0 refl refl refl (ap (λ (l : LineView _ _). l.epoch) others),
      known_settled g.V.Vault.disk g.V.Vault.count g.V.Vault.left c.self.inside.known c.self.inside.line.vault c.recover.new.self.vault c.recover.ensures.silent (λ d. Found head_name c.self.inside.line.manifest c.recover.result) c.recover.ensures.walks c.self.invariant.1,
    )

pub returns-then-not-in_doubt-clause-settles : goal.returns-then-not-in_doubt-clause-settles
returns-then-not-in_doubt-clause-settles g c = settles_calm g.V.Vault.disk g.V.Vault.count g.V.Vault.left g.S.Signer.is_seal c.args.self.now (g.met.V.Vault.only_now c.args.self.now.line.vault) (search rules)

pub returns-in-Ok-true-clause-settles : goal.returns-in-Ok-true-clause-settles
returns-in-Ok-true-clause-settles g c = recovers_made g.V.Vault.disk g.V.Vault.count g.V.Vault.left g.S.Signer.is_seal c.args.self.now c.self.inside.line c.self.inside.leases c.self.inside.moment c.self.inside.next c.self.inside.known c.self.view_is (search rules) c.recover.new.self c.recover.result c.recover.ensures.walks (search rules) (search rules)
    c.end_newest.new.self c.end_newest.ensures

pub returns-in-Ok-false-clause-settles : goal.returns-in-Ok-false-clause-settles
returns-in-Ok-false-clause-settles g c = recovers_unmade g.V.Vault.disk g.V.Vault.count g.V.Vault.left g.S.Signer.is_seal c.args.self.now c.self.inside.line c.self.inside.leases c.self.inside.moment c.self.inside.next c.self.inside.known c.self.view_is (search rules) c.recover.new.self c.recover.result c.recover.ensures.walks (search rules) (search rules)

pub returns-in-Err-clause-settles : goal.returns-in-Err-clause-settles
returns-in-Err-clause-settles g c = recovers_not g.V.Vault.disk g.V.Vault.count g.V.Vault.left g.S.Signer.is_seal c.args.self.now c.self.inside.line c.self.inside.leases c.self.inside.moment c.self.inside.next c.self.inside.known c.self.view_is (search rules) c.recover.new.self c.recover.result c.recover.ensures.walks c.in-Err.fault c.in-Err.is (search rules)

pub returns-then-not-in_doubt-clause-keeps : goal.returns-then-not-in_doubt-clause-keeps
returns-then-not-in_doubt-clause-keeps g c = λ d told. stand {E = λ d'. Unit {0}} (g.met.V.Vault.only_now c.args.self.now.line.vault) told tt

pub returns-in-Ok-true-clause-keeps : goal.returns-in-Ok-true-clause-keeps
returns-in-Ok-true-clause-keeps g c = recovers_over g.V.Vault.disk g.V.Vault.count g.V.Vault.left g.S.Signer.is_seal c.args.self.now c.self.inside.line c.self.inside.leases c.self.inside.moment c.self.inside.next c.self.inside.known c.self.view_is (search rules) c.recover.new.self c.recover.result c.recover.ensures.walks c.end_newest.new.self.line.vault (ap (λ (s : StateView _ _). s.line.vault) c.end_newest.ensures)

pub returns-in-Ok-false-clause-keeps : goal.returns-in-Ok-false-clause-keeps
returns-in-Ok-false-clause-keeps g c = recovers_over g.V.Vault.disk g.V.Vault.count g.V.Vault.left g.S.Signer.is_seal c.args.self.now c.self.inside.line c.self.inside.leases c.self.inside.moment c.self.inside.next c.self.inside.known c.self.view_is (search rules) c.recover.new.self c.recover.result c.recover.ensures.walks _ refl

pub returns-in-Err-clause-keeps : goal.returns-in-Err-clause-keeps
returns-in-Err-clause-keeps g c = recovers_over g.V.Vault.disk g.V.Vault.count g.V.Vault.left g.S.Signer.is_seal c.args.self.now c.self.inside.line c.self.inside.leases c.self.inside.moment c.self.inside.next c.self.inside.known c.self.view_is (search rules) c.recover.new.self c.recover.result c.recover.ensures.walks _ refl

pub returns-then-not-in_doubt-clause-resumes : goal.returns-then-not-in_doubt-clause-resumes
returns-then-not-in_doubt-clause-resumes g c = certain (search rules) refl

pub returns-in-Ok-true-clause-resumes : goal.returns-in-Ok-true-clause-resumes
returns-in-Ok-true-clause-resumes g c = resumes_came g.V.Vault.disk g.V.Vault.count g.V.Vault.left g.S.Signer.is_seal c.args.self.now c.self.inside.line c.self.inside.leases c.self.inside.moment c.self.inside.next c.self.inside.known c.self.view_is (search rules) c.recover.new.self c.recover.result c.recover.ensures.walks (search rules) (search rules) c.end_newest.new.self c.end_newest.ensures

pub returns-in-Ok-false-clause-resumes : goal.returns-in-Ok-false-clause-resumes
returns-in-Ok-false-clause-resumes g c = resumes_lost g.V.Vault.disk g.V.Vault.count g.V.Vault.left g.S.Signer.is_seal c.args.self.now c.self.inside.line c.self.inside.leases c.self.inside.moment c.self.inside.next c.self.inside.known c.self.view_is (search rules) c.recover.new.self c.recover.result c.recover.ensures.walks (search rules) (search rules)

pub returns-in-Err-clause-awaits : goal.returns-in-Err-clause-awaits
returns-in-Err-clause-awaits g c = λ fault is. awaits_over g.V.Vault.disk g.V.Vault.count g.V.Vault.left g.S.Signer.is_seal c.args.self.now c.self.inside.line c.self.inside.leases c.self.inside.moment c.self.inside.next c.self.inside.known c.self.view_is (search rules) c.recover.new.self c.recover.result c.recover.ensures.walks fault (search rules) (search rules)
