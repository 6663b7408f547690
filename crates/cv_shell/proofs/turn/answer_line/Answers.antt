use Rattle.cv_client.proofs.Lemmas.{asks_none}
use Rattle.cv_shell.specs.Turns.{asks, renews}
use Rattle.cv_shell.proofs.turn.answer_line.Goals as goal

pub returns-in-Some-Ask-clause-turns : goal.returns-in-Some-Ask-clause-turns
returns-in-Some-Ask-clause-turns g c =
    asks c.in-Some-Ask.question c.answer-answer.result (rw (c.in-Some-Ask.is, c.in-Some-Ask.field-0-is) at c.in_ok-question.ensures.says)
    c.answer-answer.ensures.answers c.answer-answer.ensures.completes c.say.ensures.prints

pub returns-in-Some-Renew-clause-turns : goal.returns-in-Some-Renew-clause-turns
returns-in-Some-Renew-clause-turns g c =
    renews (rw (c.in-Some-Renew.is, c.in-Some-Renew.field-0-is) at c.in_ok-question.ensures.says) c.renew.ensures.renews

pub returns-in-None-clause-asks : goal.returns-in-None-clause-asks
returns-in-None-clause-asks g c = asks_none

pub returns-in_err-question-clause-asks : goal.returns-in_err-question-clause-asks
returns-in_err-question-clause-asks g c = asks_none
