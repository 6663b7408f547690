use Rattle.std.proofs.Common.{◌∙◌, sym, ap, arith}
use Rattle.cv_messages.specs.PayloadAsk.{payload_ask_of}
use Rattle.cv_session.specs.Payloads.{message_size, payload_by_ask}
use Rattle.cv_session.specs.Turns.{signed}
use Rattle.cv_http.proofs.Lemmas.{looks_as}
use Rattle.cv_session.proofs.Payloads.{payload_read, message_looks, message_within}
use Rattle.cv_session.proofs.payload.read_payload.Goals as goal

pub returns-clause-reads : goal.returns-clause-reads
returns-clause-reads g c =
    payload_read g.R.Source.left g.R.Source.given c.args.keys.now c.args.head.now.authorization c.args.head.now.message_size _ _ _ c.args.size c.in-Some.count c.in_ok-message.message c.read_rest.result
    (sym (c.message_size.ensures ∙ ap (λ text. message_size text c.args.size) c.message_header.ensures) ∙ c.in-Some.is) c.in_ok-message.ensures.draws
    (c.read_rest.ensures.reads
    (λ pack. signed c.args.keys.now c.args.head.now.authorization c.in_ok-message.message (payload_by_ask (payload_ask_of c.in_ok-message.message) pack))
    (rw (c.authorization.ensures, c.as_slice.ensures) at c.read_announced-announced.ensures.says))

pub returns-clause-looks : goal.returns-clause-looks
returns-clause-looks g c =
    message_looks g.R.Source.left g.R.Source.given g.R.Source.looks c.args.wire.now c.read_body.new.self c.read_rest.new.wire (g.W.Sink.passed c.args.beside.now) c.args.size c.in-Some.count c.in_ok-message.message
    (message_within c.args.head.now.message_size c.args.size c.in-Some.count (sym (c.message_size.ensures ∙ ap (λ text. message_size text c.args.size) c.message_header.ensures) ∙ c.in-Some.is))
    c.read_body.ensures.looks c.in_ok-message.ensures.draws c.read_rest.ensures.looks

pub returns-in_err-message-clause-looks : goal.returns-in_err-message-clause-looks
returns-in_err-message-clause-looks g c =
    let within = message_within c.args.head.now.message_size c.args.size c.in-Some.count (sym (c.message_size.ensures ∙ ap (λ text. message_size text c.args.size) c.message_header.ensures) ∙ c.in-Some.is) in
    looks_as g.R.Source.left g.R.Source.looks c.args.wire.now c.read_body.new.self _ _ c.read_body.ensures.looks (λ b passed was. let below = was.0 in (omega (arith, below, within), was.1))
