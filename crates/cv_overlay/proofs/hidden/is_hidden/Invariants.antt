use Rattle.std.proofs.Common.{◌≡◌, drop}
use Rattle.cv_overlay.specs.Overlay.{hidden, hidden_from}
use Rattle.cv_overlay.proofs.hidden.is_hidden.Given as goal

abbrev pub invariant-loop-name : goal.invariant-loop-name
invariant-loop-name l = hidden_from l.changes l.above (drop l.name-index l.path) ≡ hidden l.changes l.path
