use Rattle.std.proofs.Common.{◌≡◌, map, drop}
use Rattle.serde_json.specs.View.{view}
use Rattle.cv_answers.specs.AnswerText.{each_of, lease_item_in}
use Rattle.cv_answers.proofs.Lists.{behind}
use Rattle.cv_answers.proofs.read_answer.read_lease_items.Given as goal

abbrev pub invariant-loop-value : goal.invariant-loop-value
invariant-loop-value l =
    each_of lease_item_in (map view l.values) ≡ behind l.items.items (each_of lease_item_in (map view (drop l.value-index l.values)))
