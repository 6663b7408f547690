use Rattle.std.proofs.Common.{◌≡◌, ◌++◌, [], map, take, drop}
use Rattle.cv_system.proofs.ahead.Ahead.clear.Given as goal

abbrev pub invariant-loop-path : goal.invariant-loop-path
invariant-loop-path l = l.path-items ≡ map (λ _. []) (take l.path-index l.initial.path-items) ++ drop l.path-index l.initial.path-items
