use Rattle.std.proofs.Common.{◌≡◌, map, drop}
use Rattle.serde_json.specs.View.{view}
use Rattle.cv_answers.specs.AnswerText.{each_of, repo_in}
use Rattle.cv_answers.proofs.Lists.{behind}
use Rattle.cv_answers.proofs.read_answer.read_names.Given as goal

abbrev pub invariant-loop-value : goal.invariant-loop-value
invariant-loop-value l =
    each_of repo_in (map view l.values) ≡ behind l.names.items (each_of repo_in (map view (drop l.value-index l.values)))
