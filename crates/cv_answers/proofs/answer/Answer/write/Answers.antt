use Rattle.std.proofs.lemmas.Result.{IfOk-weaker}
use Rattle.serde_json.specs.View.{view}
use Rattle.cv_answers.proofs.AnswerData.{is_object, no_float, shallow}
use Rattle.cv_answers.proofs.ReadBack.{answer_of-object}
use Rattle.cv_answers.proofs.answer.Answer.write.Goals as goal

pub write_object-requires-clause-object : goal.write_object-requires-clause-object
write_object-requires-clause-object c = rw c.in_ok-value.ensures.json (is_object c.args.self.now)

pub write_object-requires-clause-no_float : goal.write_object-requires-clause-no_float
write_object-requires-clause-no_float c = rw c.in_ok-value.ensures.json (no_float c.args.self.now)

pub write_object-requires-clause-shallow : goal.write_object-requires-clause-shallow
write_object-requires-clause-shallow c = rw c.in_ok-value.ensures.json (shallow c.args.self.now)

pub returns-clause-reads_back : goal.returns-clause-reads_back
returns-clause-reads_back c =
    IfOk-weaker c.write_object.result _ _
    (λ bytes object. answer_of-object bytes.items (view c.in_ok-value.value) c.args.self.now object c.in_ok-value.ensures.json c.requires c.in_ok-value.ensures.whole)
    c.write_object.ensures.reads_back
