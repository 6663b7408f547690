use Rattle.std.proofs.Common.{◌≡◌, map, take}
use Rattle.serde_json.specs.View.{view}
use Rattle.cv_answers.specs.Answer.{lease_item_data}
use Rattle.cv_answers.proofs.answer_value.lease_item_values.Given as goal

abbrev pub invariant-loop-item : goal.invariant-loop-item
invariant-loop-item l = map view l.values.items ≡ map lease_item_data (take l.item-index l.items)
