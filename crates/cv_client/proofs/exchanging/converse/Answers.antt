use Rattle.std.proofs.Common.{◌≡◌, ap, refl, sym, ◌∙◌, rules}
use Rattle.std.specs.declared.result.Result.TheVariants.{Ok, Err}
use Rattle.cv_ports.specs.Dial.{came_of}
use Rattle.cv_ports.specs.Streams.{front, onto}
use Rattle.cv_http.specs.Requests.{request_text}
use Rattle.cv_http.specs.ReplyTexts.{ReplyRead, ReplyLost}
use Rattle.cv_http.specs.Wires.{HasEnded}
use Rattle.cv_http.specs.declared.fault.HttpFault.{HttpFault}
use Rattle.cv_client.specs.Exchange.{GaveReply, replied}
use Rattle.cv_client.proofs.Conversing.{all_of, all_passed, all_sent, all_looked, passed_told, told_unsent, told_sent, front_of, told_of, unsent, unread}
use Rattle.cv_client.proofs.exchanging.converse.Goals as goal

pub returns-in-Err-clause-converses : goal.returns-in-Err-clause-converses
returns-in-Err-clause-converses g c =
    let took = front_of (g.W.Sink.taken c.args.link.writes) (g.W.Sink.taken c.write_request.new.sink) c.args.request.now c.requires.taken c.in-Err.ensures.part in
    rw c.of_send.ensures (unsent _ _ c.in-Err.fault took c.requires.given)

pub returns-in-Err-clause-told : goal.returns-in-Err-clause-told
returns-in-Err-clause-told g c =
    let came = came_of g.R.Source.given g.R.Source.left g.W.Sink.taken g.W.Sink.passed in
    told_unsent (came c.args.link) _ _ c.in-Err.ensures.part c.in-Err.ensures.held refl refl

pub returns-in-Err-clause-looks : goal.returns-in-Err-clause-looks
returns-in-Err-clause-looks g c = λ look is. absurd (c.requires.unread look is)

pub returns-in-Ok-clause-converses : goal.returns-in-Ok-clause-converses
returns-in-Ok-clause-converses g c =
    let text = request_text c.args.request.now in
    let whole : g.W.Sink.taken c.write_request.new.sink ≡ onto (g.W.Sink.taken c.args.link.writes) text = search rules in
    let flushed = c.write_request.ensures.flushed (λ is. c.in_default.not-Err _ is) c.requires.passed in
    let draws = c.in-Ok.ensures.reads in
    let gave : g.R.Source.given c.into_source.result ≡ onto (g.R.Source.given c.args.link.reads) draws.got =
    ap g.R.Source.given c.into_source.ensures ∙ draws.gave ∙ ap (λ w. onto (g.R.Source.given w.source) draws.got) c.new-wire.ensures in
    let are : ReplyRead (HasEnded (g.R.Source.left c.into_source.result)) draws.got c.read_reply-reply.new.self.held (Ok c.in-Ok.reply) =
    rw (← c.into_source.ensures, c.new-wire.ensures) at draws.are in
    replied c.in-Ok.reply
    (record {
      taken = all_of (g.W.Sink.taken c.args.link.writes) (g.W.Sink.taken c.write_request.new.sink) text c.requires.taken whole;
      passed = all_passed (g.W.Sink.taken c.args.link.writes) (g.W.Sink.taken c.write_request.new.sink) (g.W.Sink.passed c.write_request.new.sink) text c.requires.taken whole flushed;
    })
    (told_of (GaveReply (g.R.Source.left c.into_source.result) c.in-Ok.reply) _ _ draws.got c.requires.given gave (record { later = c.read_reply-reply.new.self.held; is = are }))

pub returns-in-Err-reply-clause-converses : goal.returns-in-Err-reply-clause-converses
returns-in-Err-reply-clause-converses g c =
    let text = request_text c.args.request.now in
    let whole : g.W.Sink.taken c.write_request.new.sink ≡ onto (g.W.Sink.taken c.args.link.writes) text = search rules in
    let flushed = c.write_request.ensures.flushed (λ is. c.in_default.not-Err _ is) c.requires.passed in
    let draws = c.in-Err-reply.ensures.reads in
    let gave : g.R.Source.given c.into_source.result ≡ onto (g.R.Source.given c.args.link.reads) draws.got =
    ap g.R.Source.given c.into_source.ensures ∙ draws.gave ∙ ap (λ w. onto (g.R.Source.given w.source) draws.got) c.new-wire.ensures in
    let are : ReplyLost draws.got c.in-Err-reply.fault = rw c.new-wire.ensures at draws.are in
    rw c.of_read.ensures
    (unread _ _ c.in-Err-reply.fault
    (record {
      taken = all_of (g.W.Sink.taken c.args.link.writes) (g.W.Sink.taken c.write_request.new.sink) text c.requires.taken whole;
      passed = all_passed (g.W.Sink.taken c.args.link.writes) (g.W.Sink.taken c.write_request.new.sink) (g.W.Sink.passed c.write_request.new.sink) text c.requires.taken whole flushed;
    })
    (told_of (λ b. ReplyLost b c.in-Err-reply.fault) _ _ draws.got c.requires.given gave are)
    (λ short. rw c.into_source.ensures (c.in-Err-reply.ensures.cut (ap (λ (f : HttpFault). Err f) short))))

pub returns-in-Ok-clause-told : goal.returns-in-Ok-clause-told
returns-in-Ok-clause-told g c =
    let came = came_of g.R.Source.given g.R.Source.left g.W.Sink.taken g.W.Sink.passed in
    let flushed = c.write_request.ensures.flushed (λ is. c.in_default.not-Err _ is) c.requires.passed in
    let draws = c.in-Ok.ensures.reads in
    let gave : g.R.Source.given c.into_source.result ≡ onto (g.R.Source.given c.args.link.reads) draws.got =
    ap g.R.Source.given c.into_source.ensures ∙ draws.gave ∙ ap (λ w. onto (g.R.Source.given w.source) draws.got) c.new-wire.ensures in
    let left : g.R.Source.left c.args.link.reads ≡ front draws.got (g.R.Source.left c.into_source.result) = rw (← c.into_source.ensures, c.new-wire.ensures) at draws.told in
    told_sent (came c.args.link) _ _ draws.got c.write_request.ensures.part flushed gave left

pub returns-in-Err-reply-clause-told : goal.returns-in-Err-reply-clause-told
returns-in-Err-reply-clause-told g c =
    let came = came_of g.R.Source.given g.R.Source.left g.W.Sink.taken g.W.Sink.passed in
    let flushed = c.write_request.ensures.flushed (λ is. c.in_default.not-Err _ is) c.requires.passed in
    let draws = c.in-Err-reply.ensures.reads in
    let gave : g.R.Source.given c.into_source.result ≡ onto (g.R.Source.given c.args.link.reads) draws.got =
    ap g.R.Source.given c.into_source.ensures ∙ draws.gave ∙ ap (λ w. onto (g.R.Source.given w.source) draws.got) c.new-wire.ensures in
    let left : g.R.Source.left c.args.link.reads ≡ front draws.got (g.R.Source.left c.into_source.result) = rw (← c.into_source.ensures, c.new-wire.ensures) at draws.told in
    told_sent (came c.args.link) _ _ draws.got c.write_request.ensures.part flushed gave left

pub returns-in-Ok-clause-looks : goal.returns-in-Ok-clause-looks
returns-in-Ok-clause-looks g c =
    let text = request_text c.args.request.now in
    let whole : g.W.Sink.taken c.write_request.new.sink ≡ onto (g.W.Sink.taken c.args.link.writes) text = search rules in
    let flushed = c.write_request.ensures.flushed (λ is. c.in_default.not-Err _ is) c.requires.passed in
    let draws = c.in-Ok.ensures.reads in
    let gave : g.R.Source.given c.into_source.result ≡ onto (g.R.Source.given c.args.link.reads) draws.got =
    ap g.R.Source.given c.into_source.ensures ∙ draws.gave ∙ ap (λ w. onto (g.R.Source.given w.source) draws.got) c.new-wire.ensures in
    let left : g.R.Source.left c.new-wire.result.source ≡ front draws.got (g.R.Source.left c.into_source.result) =
    draws.told ∙ ap (λ s. front draws.got (g.R.Source.left s)) (sym c.into_source.ensures) in
    all_looked g.R.Source.left g.R.Source.looks c.new-wire.result c.read_reply-reply.new.self c.into_source.result _ c.args.request.now (g.W.Sink.passed c.args.link.writes) (g.W.Sink.passed c.write_request.new.sink)
    c.into_source.ensures (ap (λ w. w.held) c.new-wire.ensures) (rw c.new-wire.ensures c.requires.unread) c.read_reply-reply.ensures.looks
    (all_passed (g.W.Sink.taken c.args.link.writes) (g.W.Sink.taken c.write_request.new.sink) (g.W.Sink.passed c.write_request.new.sink) text c.requires.taken whole flushed)
    (passed_told c.write_request.ensures.part c.requires.passed flushed)
    (all_sent (g.R.Source.given c.args.link.reads) (g.R.Source.given c.into_source.result) (g.R.Source.left c.into_source.result) (g.R.Source.left c.new-wire.result.source) draws.got c.requires.given gave left)

pub returns-in-Err-reply-clause-looks : goal.returns-in-Err-reply-clause-looks
returns-in-Err-reply-clause-looks g c =
    let text = request_text c.args.request.now in
    let whole : g.W.Sink.taken c.write_request.new.sink ≡ onto (g.W.Sink.taken c.args.link.writes) text = search rules in
    let flushed = c.write_request.ensures.flushed (λ is. c.in_default.not-Err _ is) c.requires.passed in
    let draws = c.in-Err-reply.ensures.reads in
    let gave : g.R.Source.given c.into_source.result ≡ onto (g.R.Source.given c.args.link.reads) draws.got =
    ap g.R.Source.given c.into_source.ensures ∙ draws.gave ∙ ap (λ w. onto (g.R.Source.given w.source) draws.got) c.new-wire.ensures in
    let left : g.R.Source.left c.new-wire.result.source ≡ front draws.got (g.R.Source.left c.into_source.result) =
    draws.told ∙ ap (λ s. front draws.got (g.R.Source.left s)) (sym c.into_source.ensures) in
    all_looked g.R.Source.left g.R.Source.looks c.new-wire.result c.read_reply-reply.new.self c.into_source.result _ c.args.request.now (g.W.Sink.passed c.args.link.writes) (g.W.Sink.passed c.write_request.new.sink)
    c.into_source.ensures (ap (λ w. w.held) c.new-wire.ensures) (rw c.new-wire.ensures c.requires.unread) c.read_reply-reply.ensures.looks
    (all_passed (g.W.Sink.taken c.args.link.writes) (g.W.Sink.taken c.write_request.new.sink) (g.W.Sink.passed c.write_request.new.sink) text c.requires.taken whole flushed)
    (passed_told c.write_request.ensures.part c.requires.passed flushed)
    (all_sent (g.R.Source.given c.args.link.reads) (g.R.Source.given c.into_source.result) (g.R.Source.left c.into_source.result) (g.R.Source.left c.new-wire.result.source) draws.got c.requires.given gave left)
