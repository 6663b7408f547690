use Rattle.std.proofs.Common.{◌∙◌, sym, ap, subst}
use Rattle.cv_messages.specs.LeaseAsk.{lease_ask_of}
use Rattle.cv_session.specs.DenialsInner.{Denies}
use Rattle.cv_session.specs.Turns.{lease_by_ask}
use Rattle.cv_session.specs.declared.turn.Turn.{Turn}
use Rattle.cv_session.proofs.Asking.{asks_denied}
use Rattle.cv_session.proofs.asked_op.asked_lease.Goals as goal

pub returns-in_err-key : goal.returns-in_err-key
returns-in_err-key c =
    asks_denied _ _ _ c.from_residual.ensures.1 (c.in_err-key.ensures.signed (lease_by_ask c.args.repository.now (lease_ask_of c.args.body.now)))

pub returns-in_err-path : goal.returns-in_err-path
returns-in_err-path c =
    let asks = c.in_ok-key.ensures.signed (lease_by_ask c.args.repository.now (lease_ask_of c.args.body.now)) in
    let turn_is = asks ∙ ap (λ ask. lease_by_ask c.args.repository.now ask c.in_ok-key.key.now) (sym c.in_ok-ask.ensures) in
    let P : Turn → Type 0 = λ turn. Denies turn c.in_err-path.field-0.0 in
    asks_denied _ _ _ c.from_residual-in_err-path.ensures.1
    (subst P (sym turn_is) (rw c.as_str.ensures at (c.in_err-path.ensures.turn c.in_ok-key.key.now)))
