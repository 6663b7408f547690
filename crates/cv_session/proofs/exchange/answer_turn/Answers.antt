use Rattle.std.proofs.Common.{refl}
use Rattle.cv_session.specs.ExchangesInner.{answered, unanswered}
use Rattle.cv_session.proofs.exchange.answer_turn.Goals as goal

pub returns-in-Ok-clause-handles : goal.returns-in-Ok-clause-handles
returns-in-Ok-clause-handles g c = answered c.in-Ok.answer c.send-end.result c.in-Ok.ensures.does c.send-end.ensures.sends

pub returns-in-Err-clause-handles : goal.returns-in-Err-clause-handles
returns-in-Err-clause-handles g c = unanswered c.in-Err.ensures.does refl
