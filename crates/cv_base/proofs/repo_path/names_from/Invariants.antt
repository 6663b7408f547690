use Rattle.std.proofs.Common.{◌≡◌, map, take}
use Rattle.cv_base.proofs.repo_path.names_from.Given as goal

abbrev pub invariant-loop-text : goal.invariant-loop-text
invariant-loop-text l = l.names.items ≡ map (λ text. text.now) (take l.text-index l.texts)
