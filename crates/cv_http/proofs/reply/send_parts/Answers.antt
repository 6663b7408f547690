use Rattle.cv_ports.proofs.Laws.{wrote_back}
use Rattle.cv_http.proofs.reply.send_parts.Goals as goal

pub returns-in_err-write_all-2-clause-part : goal.returns-in_err-write_all-2-clause-part
returns-in_err-write_all-2-clause-part g c = wrote_back (g.W.Sink.taken c.args.sink.now) c.args.head.now c.in_ok-write_all.ensures.whole c.write_all-2.ensures.part

pub returns-clause-part : goal.returns-clause-part
returns-clause-part g c = rw c.flush.ensures.same (wrote_back (g.W.Sink.taken c.args.sink.now) c.args.head.now c.in_ok-write_all.ensures.whole c.write_all-2.ensures.part)
