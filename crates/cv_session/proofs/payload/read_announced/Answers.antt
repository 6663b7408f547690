use Rattle.cv_messages.specs.PayloadAsk.{payload_ask_of}
use Rattle.cv_session.specs.Payloads.{payload_by_ask}
use Rattle.cv_session.proofs.Payloads.{announces_none}
use Rattle.cv_session.proofs.payload.read_announced.Goals as goal

pub returns-in_err-key-clause-says : goal.returns-in_err-key-clause-says
returns-in_err-key-clause-says c = λ pack.
    announces_none _ _ _ _ c.from_residual.ensures.1 (c.in_err-key.ensures.signed (payload_by_ask (payload_ask_of c.args.message.now) pack))
