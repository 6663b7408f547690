use Rattle.std.proofs.Common.{◌≡◌, ◌++◌, drop}
use Rattle.cv_tree.proofs.joined.extended.Given as goal

abbrev pub invariant-loop-name : goal.invariant-loop-name
invariant-loop-name l = l.path ++ drop l.name-index l.names ≡ l.fn.start ++ l.fn.names
