use Rattle.cv_gate.specs.declared.op.Op.TheVariants.{Cancel}
use Rattle.cv_messages.specs.Spelling.{token_of}
use Rattle.cv_session.specs.Turns.{token_by}
use Rattle.cv_session.specs.declared.turn.Turn.TheVariants.{Step}
use Rattle.cv_session.proofs.Asking.{asks_denied}
use Rattle.cv_session.proofs.asked_op.asked_end.Goals as goal

pub returns-in_err-key : goal.returns-in_err-key
returns-in_err-key c =
    asks_denied _ _ _ c.from_residual.ensures.1
    (rw c.as_bytes.ensures.value at (c.in_err-key.ensures.signed (λ key. Step (Cancel key.id (token_by (token_of c.args.token.now))))))
