use Rattle.std.proofs.Common.{◌≡◌, take}
use Rattle.std.specs.List.{filter}
use Rattle.cv_base.specs.Path.{covers}
use Rattle.cv_cut.proofs.pieces.entries_within.Given as goal

abbrev pub invariant-loop-entry : goal.invariant-loop-entry
invariant-loop-entry l = l.found.items ≡ filter (λ e. covers l.path e.0) (take l.entry-index l.entries)
