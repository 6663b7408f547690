use Rattle.std.proofs.Common.{rules, refl, ap, ◌∙◌}
use Rattle.cv_objects.specs.Batches.{Stored}
use Rattle.cv_swap.specs.Line.{LineView}
use Rattle.cv_desk.specs.Refusals.{is_sending}
use Rattle.cv_desk.specs.declared.sent.Sent.{Sent}
use Rattle.cv_desk.proofs.Sends.{sends_unknown, sends_known, sending_of, sending_by}
use Rattle.cv_desk.proofs.Knowing.{known_read, known_brought}
use Rattle.cv_desk.proofs.States.{state_same}
use Rattle.cv_desk.proofs.gate_state.GateState.send.Goals as goal

pub invariant_of-self : goal.invariant_of-self
invariant_of-self g c = (
  state_same (record { line = c.self.inside.line; leases = c.self.inside.leases; moment = c.self.inside.moment; next = c.self.inside.next; known = c.self.inside.known }) _ c.self.invariant.0 refl refl refl (ap (λ (l : LineView _ _). l.epoch) c.fresh.ensures.others),
  known_read g.V.Vault.disk g.V.Vault.count g.V.Vault.left c.self.inside.known c.self.inside.line.vault c.fresh.new.self.vault c.fresh.ensures.reads c.self.invariant.1,
)

pub invariant_of-self-2 : goal.invariant_of-self-2
invariant_of-self-2 g c = (
  state_same (record { line = c.self.inside.line; leases = c.self.inside.leases; moment = c.self.inside.moment; next = c.self.inside.next; known = c.self.inside.known }) _ c.self.invariant.0 refl refl refl (ap (λ (l : LineView _ _). l.epoch) c.store-stored.ensures.others ∙ ap (λ (l : LineView _ _). l.epoch) c.fresh.ensures.others),
  known_brought g.V.Vault.disk g.V.Vault.count g.V.Vault.left c.self.inside.known c.fresh.new.self.vault c.store-stored.new.self.vault c.store-stored.ensures.names.silent (λ d. Stored d c.args.batch.now c.store-stored.result) c.args.batch.now c.store-stored.ensures.walks
      (known_read g.V.Vault.disk g.V.Vault.count g.V.Vault.left c.self.inside.known c.self.inside.line.vault c.fresh.new.self.vault c.fresh.ensures.reads c.self.invariant.1),
)

pub returns-in-Err-clause-sends : goal.returns-in-Err-clause-sends
returns-in-Err-clause-sends g c = sends_unknown g.V.Vault.disk g.V.Vault.count g.V.Vault.left c.args.batch.now c.args.self.now c.self.inside.line c.self.inside.leases c.self.inside.moment c.self.inside.next c.self.inside.known c.self.view_is
    c.fresh.new.self c.fresh.ensures.others c.fresh.result c.in-Err.fault c.in-Err.is c.fresh.ensures.walks c.none.result (search rules)

pub returns-clause-sends : goal.returns-clause-sends
returns-clause-sends g c = sends_known g.V.Vault.disk g.V.Vault.count g.V.Vault.left c.args.batch.now c.args.self.now c.self.inside.line c.self.inside.leases c.self.inside.moment c.self.inside.next c.self.inside.known c.self.view_is
    c.fresh.new.self c.store-stored.new.self c.fresh.ensures.others c.store-stored.ensures.others c.fresh.result c.in-Ok.fresh c.in-Ok.is c.fresh.ensures.walks c.store-stored.result c.store-stored.ensures.walks c.by.result c.by.ensures

pub returns-in-Err-clause-kind : goal.returns-in-Err-clause-kind
returns-in-Err-clause-kind g c = ap (λ (s : Sent). is_sending s.answer) c.none.ensures ∙ ap is_sending c.of_store.ensures ∙ sending_of c.in-Err.fault

pub returns-clause-kind : goal.returns-clause-kind
returns-clause-kind g c = ap (λ (s : Sent). is_sending s.answer) c.by.ensures ∙ sending_by c.in-Ok.fresh.items c.store-stored.result
