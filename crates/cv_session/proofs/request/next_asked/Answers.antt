use Rattle.cv_session.proofs.Readings.{read_whole, read_unread, read_fault, read_end, asks_head, asks_behind}
use Rattle.cv_session.proofs.request.next_asked.Goals as goal

pub returns-in-Ok-clause-gets : goal.returns-in-Ok-clause-gets
returns-in-Ok-clause-gets g c =
    read_whole g.R.Source.left g.R.Source.given _ _ _ _ _ _ _ c.in-Ok-Some.head c.in-Ok.asked (rw c.in-Ok-Some.field-0-is at c.in-Ok-Some.ensures.reads) c.in-Ok.ensures.gets

pub returns-in-Ok-Some-clause-gets : goal.returns-in-Ok-Some-clause-gets
returns-in-Ok-Some-clause-gets g c =
    read_unread g.R.Source.left g.R.Source.given _ _ _ _ _ _ _ c.in-Ok-Some.head _ (rw c.in-Ok-Some.field-0-is at c.in-Ok-Some.ensures.reads) c.in-Err-read_asked.ensures.gets

pub returns-in-Ok-None-clause-gets : goal.returns-in-Ok-None-clause-gets
returns-in-Ok-None-clause-gets g c = read_end g.R.Source.left g.R.Source.given _ _ _ _ _ (rw c.in-Ok-None.field-0-is at c.in-Ok-None.ensures.reads)

pub returns-clause-gets : goal.returns-clause-gets
returns-clause-gets g c = read_fault g.R.Source.left g.R.Source.given _ _ _ _ _ c.in-Err.fault c.in-Err.ensures.faults c.in-Err.ensures.reads

pub returns-in-Ok-clause-looks : goal.returns-in-Ok-clause-looks
returns-in-Ok-clause-looks g c = λ was.
    asks_behind g.R.Source.left g.R.Source.looks g.R.Source.given c.args.wire.now c.read_head.new.self c.read_asked.new.wire (g.W.Sink.taken c.args.sink.now) c.in-Ok-Some.head
    (asks_head g.R.Source.left g.R.Source.looks c.args.wire.now c.read_head.new.self (g.W.Sink.taken c.args.sink.now) (g.W.Sink.passed c.args.sink.now) was c.read_head.ensures.looks)
    (rw c.in-Ok-Some.field-0-is at c.in-Ok-Some.ensures.reads) (c.read_asked.ensures.looks was)

pub returns-in-Ok-Some-clause-looks : goal.returns-in-Ok-Some-clause-looks
returns-in-Ok-Some-clause-looks g c = λ was.
    asks_behind g.R.Source.left g.R.Source.looks g.R.Source.given c.args.wire.now c.read_head.new.self c.read_asked.new.wire (g.W.Sink.taken c.args.sink.now) c.in-Ok-Some.head
    (asks_head g.R.Source.left g.R.Source.looks c.args.wire.now c.read_head.new.self (g.W.Sink.taken c.args.sink.now) (g.W.Sink.passed c.args.sink.now) was c.read_head.ensures.looks)
    (rw c.in-Ok-Some.field-0-is at c.in-Ok-Some.ensures.reads) (c.read_asked.ensures.looks was)

pub returns-in-Ok-None-clause-looks : goal.returns-in-Ok-None-clause-looks
returns-in-Ok-None-clause-looks g c = λ was.
    asks_head g.R.Source.left g.R.Source.looks c.args.wire.now c.read_head.new.self (g.W.Sink.taken c.args.sink.now) (g.W.Sink.passed c.args.sink.now) was c.read_head.ensures.looks

pub returns-clause-looks : goal.returns-clause-looks
returns-clause-looks g c = λ was.
    asks_head g.R.Source.left g.R.Source.looks c.args.wire.now c.read_head.new.self (g.W.Sink.taken c.args.sink.now) (g.W.Sink.passed c.args.sink.now) was c.read_head.ensures.looks
