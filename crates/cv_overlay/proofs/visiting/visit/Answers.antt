use Rattle.std.proofs.Common.{List, ℕ, ◌++◌, ◌∷◌, [], ap, ◌∙◌}
use Rattle.cv_overlay.specs.FoundInner.{FoundView}
use Rattle.cv_overlay.proofs.Visits.{within}
use Rattle.cv_overlay.proofs.visiting.visit.Goals as goal

pub returns-in_ok-with_node-in-Dir-clause-within : goal.returns-in_ok-with_node-in-Dir-clause-within
returns-in_ok-with_node-in-Dir-clause-within g c =
    within c.args.found c.in_ok-with_node-in-Dir.field-0 c.in_ok-path.path _ _ (ap (λ (v : FoundView). v.nodes) c.in_ok-with_node-in-Dir.ensures)
    (c.in_ok-path.ensures ∙ ap (λ (n : List ℕ). c.args.above.now ++ n ∷ []) c.as_str-2.ensures)

pub returns-in_ok-with_node-in-Some-clause-within : goal.returns-in_ok-with_node-in-Some-clause-within
returns-in_ok-with_node-in-Some-clause-within g c =
    within c.args.found c.in_ok-with_node-in-Some.field-0 c.in_ok-path.path _ _ (ap (λ (v : FoundView). v.nodes) c.in_ok-with_node-in-Some.ensures)
    (c.in_ok-path.ensures ∙ ap (λ (n : List ℕ). c.args.above.now ++ n ∷ []) c.as_str-2.ensures)
