use Rattle.std.proofs.Common.{rules}
use Rattle.cv_answers.specs.AnswerText.{lease_item_in}
use Rattle.cv_answers.proofs.Lists.{behind-more, behind-fault}
use Rattle.cv_answers.proofs.read_answer.read_lease_items.Goals as goal

pub loop-value-preserved : goal.loop-value-preserved
loop-value-preserved c =
    behind-more lease_item_in c.args.values.now c.loop-value.value-index c.value-item.result c.in_ok-item.item c.loop-value.items.items c.push.new.self.items _
    c.loop-value-test.true c.value-item.is c.in_ok-item.ensures (search rules) c.loop-value.invariant

pub returns-in_err-item : goal.returns-in_err-item
returns-in_err-item c =
    behind-fault lease_item_in c.args.values.now c.loop-value.value-index c.value-item.result c.in_err-item.field-0.0 c.loop-value.items.items _ c.from_residual.result _
    c.loop-value-test.true c.value-item.is c.in_err-item.ensures c.loop-value.invariant c.from_residual.ensures.1
