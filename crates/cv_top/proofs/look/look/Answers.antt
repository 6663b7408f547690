use Rattle.std.proofs.Common.{refl}
use Rattle.cv_top.specs.Looks.{answered, unanswered}
use Rattle.cv_top.proofs.Answering.{print_ends, refusal_ends}
use Rattle.cv_top.proofs.look.look.Goals as goal

pub returns-in-Ok-clause-looks : goal.returns-in-Ok-clause-looks
returns-in-Ok-clause-looks g c = answered _ _ c.in-Ok.ensures.told c.print_answer.ensures.prints

pub returns-in-Err-clause-looks : goal.returns-in-Err-clause-looks
returns-in-Err-clause-looks g c = rw c.of_ask.ensures (unanswered _ c.in-Err.ensures.told refl)

pub returns-in-Ok-clause-answered : goal.returns-in-Ok-clause-answered
returns-in-Ok-clause-answered g c = λ writes links files s t m has.
    print_ends g.W.Sink.taken m.name t c.args.question _ _ c.in-Ok.found c.print_answer.result (λ is. writes (c.print_answer.ensures.writes.failed is)) (c.in-Ok.ensures.completes links files s t m has) c.print_answer.ensures.prints

pub returns-in-Err-clause-answered : goal.returns-in-Err-clause-answered
returns-in-Err-clause-answered g c = λ writes links files s t m has.
    rw c.of_ask.ensures (refusal_ends g.W.Sink.taken m.name t c.args.question _ _ c.in-Err.fault (c.in-Err.ensures.completes links files s t m has))
