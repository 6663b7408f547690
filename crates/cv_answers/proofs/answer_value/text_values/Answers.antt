use Rattle.std.proofs.Common.{rules}
use Rattle.serde_json.specs.Data.{string}
use Rattle.cv_answers.proofs.Lists.{seen-more}
use Rattle.cv_answers.proofs.answer_value.text_values.Goals as goal

pub loop-text-preserved : goal.loop-text-preserved
loop-text-preserved c =
    seen-more string c.args.texts.now c.loop-text.text-index c.text-item.result c.loop-text.values.items c.push.new.self.items c.in_ok-value.value
    c.loop-text-test.true c.text-item.is (rw c.as_str.ensures at c.in_ok-value.ensures) (search rules) c.loop-text.invariant
