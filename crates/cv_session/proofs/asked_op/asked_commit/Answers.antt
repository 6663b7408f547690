use Rattle.cv_messages.specs.CommitAsk.{commit_ask_of}
use Rattle.cv_messages.specs.Spelling.{token_of}
use Rattle.cv_session.specs.Turns.{commit_by_ask, token_by}
use Rattle.cv_session.proofs.Asking.{asks_denied}
use Rattle.cv_session.proofs.asked_op.asked_commit.Goals as goal

pub returns-in_err-key : goal.returns-in_err-key
returns-in_err-key c =
    asks_denied _ _ _ c.from_residual.ensures.1
    (rw c.as_bytes.ensures.value at (c.in_err-key.ensures.signed (commit_by_ask (token_by (token_of c.args.text.now)) (commit_ask_of c.args.body.now))))
