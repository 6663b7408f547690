use Rattle.std.proofs.Common.{rules}
use Rattle.cv_answers.specs.Answer.{lease_item_data}
use Rattle.cv_answers.proofs.Lists.{seen-more}
use Rattle.cv_answers.proofs.answer_value.lease_item_values.Goals as goal

pub loop-item-preserved : goal.loop-item-preserved
loop-item-preserved c =
    seen-more lease_item_data c.args.items.now c.loop-item.item-index c.item-item.result c.loop-item.values.items c.push.new.self.items c.in_ok-value.value
    c.loop-item-test.true c.item-item.is c.in_ok-value.ensures (search rules) c.loop-item.invariant
