use Rattle.std.proofs.Common.{◌≡◌, take, filter}
use Rattle.cv_base.specs.Path.{covers}
use Rattle.cv_rows.proofs.covered.copy_nested.Given as goal

abbrev pub invariant-loop-entry : goal.invariant-loop-entry
invariant-loop-entry l = l.found.items ≡ filter (λ n. covers l.path n.path) (take l.entry-index l.nested)
