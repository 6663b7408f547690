use Rattle.std.proofs.Common.{refl, ◌∙◌, Err, rules, subst, Bool}
use Rattle.cv_ports.specs.Streams.{Wrote}
use Rattle.cv_http.proofs.Lemmas.{draws_none, looks_none}
use Rattle.cv_session.specs.Requests.{line_text}
use Rattle.cv_session.specs.ExchangesInner.{GetsBehind, large, unsaid_behind}
use Rattle.cv_session.specs.declared.request.Unread.TheVariants.{Fault, Unsaid}
use Rattle.cv_http.specs.declared.fault.HttpFault.TheVariants.{BodyTooLarge}
use Rattle.cv_session.proofs.Readings.{behind_whole, behind_fault, asks_body}
use Rattle.cv_session.proofs.request.read_asked.Goals as goal

pub returns-then-body_size-body_limit-clause-gets : goal.returns-then-body_size-body_limit-clause-gets
returns-then-body_size-body_limit-clause-gets g c =
    draws_none g.R.Source.left g.R.Source.given c.args.wire.now (λ b. GetsBehind c.args.repository.now c.args.keys.now c.args.head.now b c.args.wire.now.held _ _ (Err (Fault BodyTooLarge))) (large (search rules) refl)

pub returns-in-Ok-read_turn-clause-gets : goal.returns-in-Ok-read_turn-clause-gets
returns-in-Ok-read_turn-clause-gets g c = behind_whole g.R.Source.left g.R.Source.given _ _ _ _ _ _ c.args.head.now c.in-Ok-read_turn.turn (search rules) c.in-Ok-read_turn.ensures.reads c.in-Ok.ensures.whole

pub returns-in-Err-read_turn-clause-gets : goal.returns-in-Err-read_turn-clause-gets
returns-in-Err-read_turn-clause-gets g c =
    behind_fault g.R.Source.left g.R.Source.given _ _ _ _ _ _ c.args.head.now c.in-Err-read_turn.fault (search rules) c.in-Err-read_turn.ensures.faults c.in-Err-read_turn.ensures.reads c.in-Ok.ensures.whole

pub returns-in-Err-clause-gets : goal.returns-in-Err-clause-gets
returns-in-Err-clause-gets g c =
    draws_none g.R.Source.left g.R.Source.given c.args.wire.now (λ b. GetsBehind c.args.repository.now c.args.keys.now c.args.head.now b c.args.wire.now.held _ _ (Err Unsaid)) (unsaid_behind (search rules) c.in-Err.ensures.waiting
    (subst (λ (line : Bool). Wrote (g.W.Sink.taken c.args.sink.now) (g.W.Sink.taken c.say_line.new.sink) (line_text line)) c.in-Err.ensures.waiting c.say_line.ensures.part))

pub returns-then-body_size-body_limit-clause-looks : goal.returns-then-body_size-body_limit-clause-looks
returns-then-body_size-body_limit-clause-looks g c = λ was. looks_none g.R.Source.left g.R.Source.looks c.args.wire.now c.args.wire.now _ refl

pub returns-in-Ok-read_turn-clause-looks : goal.returns-in-Ok-read_turn-clause-looks
returns-in-Ok-read_turn-clause-looks g c = λ was.
    asks_body g.R.Source.left g.R.Source.looks c.args.wire.now c.read_turn.new.wire c.args.head.now (g.W.Sink.taken c.args.sink.now) (g.W.Sink.passed c.say_line.new.sink) (search rules)
    (c.in-Ok.ensures.flushed was ∙ c.in-Ok.ensures.whole) c.read_turn.ensures.looks

pub returns-in-Err-read_turn-clause-looks : goal.returns-in-Err-read_turn-clause-looks
returns-in-Err-read_turn-clause-looks g c = λ was.
    asks_body g.R.Source.left g.R.Source.looks c.args.wire.now c.read_turn.new.wire c.args.head.now (g.W.Sink.taken c.args.sink.now) (g.W.Sink.passed c.say_line.new.sink) (search rules)
    (c.in-Ok.ensures.flushed was ∙ c.in-Ok.ensures.whole) c.read_turn.ensures.looks

pub returns-in-Err-clause-looks : goal.returns-in-Err-clause-looks
returns-in-Err-clause-looks g c = λ was. looks_none g.R.Source.left g.R.Source.looks c.args.wire.now c.args.wire.now _ refl
