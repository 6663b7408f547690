use Rattle.std.proofs.Common.{ap, sym, subst, refl, ◌∙◌}
use Rattle.std.specs.Prelude.{option_copied}
use Rattle.cv_desk.specs.Gate.{StateView, IsSameRepository}
use Rattle.cv_desk.proofs.States.{state_same}
use Rattle.cv_desk.proofs.CommitCalls.{found_unmarked, readies_same, opposes, made_ready}
use Rattle.cv_desk.proofs.gate_state.GateState.commit_under.Goals as goal

pub returns-in-Some-opposition-clause-under : goal.returns-in-Some-opposition-clause-under
returns-in-Some-opposition-clause-under g c = opposes g.V.Vault.disk g.V.Vault.count g.V.Vault.left g.S.Signer.is_seal c.args.self.now c.self.inside.line c.self.inside.leases c.self.inside.moment c.self.inside.next c.self.inside.known c.self.view_is c.args.token c.in-Some.lease.now
    (sym c.find.ensures ∙ ap option_copied c.in-Some.is) c.args.key.now c.args.old_root.now c.args.offered c.args.tag.now
    c.in-Some-opposition.answer (sym c.opposition.ensures ∙ c.in-Some-opposition.is)

pub ready-requires-clause-unmarked : goal.ready-requires-clause-unmarked
ready-requires-clause-unmarked g c = found_unmarked c.self.inside.leases c.args.token c.in-Some.lease.now c.self.invariant.0.leases.table (sym c.find.ensures ∙ ap option_copied c.in-Some.is)

pub invariant_of-self : goal.invariant_of-self
invariant_of-self g c = (
  state_same (record { line = c.self.inside.line; leases = c.self.inside.leases; moment = c.self.inside.moment; next = c.self.inside.next; known = c.self.inside.known }) _ c.self.invariant.0 refl refl refl
      (readies_same g.V.Vault.disk g.V.Vault.count g.V.Vault.left g.S.Signer.is_seal c.self.inside.known c.in-Some.lease.now c.args.key.now c.self.inside.moment c.args.offered c.args.tag.now c.self.inside.line c.ready.new.line c.ready.result c.ready.ensures.readies).epoch_,
  c.ready.ensures.known,
)

pub returns-clause-under : goal.returns-clause-under
returns-clause-under g c = made_ready g.V.Vault.disk g.V.Vault.count g.V.Vault.left g.S.Signer.is_seal c.args.self.now c.self.inside.line c.self.inside.leases c.self.inside.moment c.self.inside.next c.self.inside.known c.self.view_is c.args.token c.in-Some.lease.now
    (sym c.find.ensures ∙ ap option_copied c.in-Some.is) c.args.key.now c.args.old_root.now c.args.offered c.args.tag.now c.ready.new.line c.ready.new.known c.ready.result (sym c.opposition.ensures ∙ c.in_default-opposition.is) c.ready.ensures.readies c.ready.ensures.knows

pub returns-clause-same : goal.returns-clause-same
returns-clause-same g c = subst (λ (s : StateView _ _). IsSameRepository s.line c.ready.new.line) c.self.view_is
    (readies_same g.V.Vault.disk g.V.Vault.count g.V.Vault.left g.S.Signer.is_seal c.self.inside.known c.in-Some.lease.now c.args.key.now c.self.inside.moment c.args.offered c.args.tag.now c.self.inside.line c.ready.new.line c.ready.result c.ready.ensures.readies)
