use Rattle.std.proofs.Common.{subst, ap, ◌∙◌, Err, Bool}
use Rattle.std.specs.Prelude.{is_some}
use Rattle.cv_ports.specs.Streams.{onto, Wrote}
use Rattle.cv_session.specs.Responses.{reply_of}
use Rattle.cv_session.specs.ExchangesInner.{whole, front, nothing}
use Rattle.cv_session.proofs.exchange.send.Goals as goal

pub returns-in-Ok-clause-sends : goal.returns-in-Ok-clause-sends
returns-in-Ok-clause-sends g c =
    whole c.end_after-end.result c.end_after-end.ensures (c.write_answer.ensures.legible (λ e. cc))
    (c.in-Ok.ensures.whole ∙ ap (λ last. onto (g.W.Sink.taken c.args.sink.now) (reply_of c.args.answer last)) c.is_some.ensures)

pub returns-in-Err-WriteFault-clause-sends : goal.returns-in-Err-WriteFault-clause-sends
returns-in-Err-WriteFault-clause-sends g c =
    front (c.write_answer.ensures.legible (λ e. cc))
    (subst (λ (last : Bool). Wrote (g.W.Sink.taken c.args.sink.now) (g.W.Sink.taken c.write_answer.new.sink) (reply_of c.args.answer last))
    (c.is_some.ensures ∙ ap is_some c.end_after-end.ensures) c.write_answer.ensures.part)

pub returns-in-Err-NoMemory-clause-sends : goal.returns-in-Err-NoMemory-clause-sends
returns-in-Err-NoMemory-clause-sends g c = nothing (c.write_answer.ensures.nothing (c.in-Err-NoMemory.is ∙ ap (λ fault. Err fault) c.in-Err-NoMemory.field-0-is))
