use Rattle.std.proofs.Common.{◌≡◌, take}
use Rattle.std.specs.List.{filter}
use Rattle.cv_base.specs.Path.{covers}
use Rattle.cv_cut.proofs.pieces.paths_within.Given as goal

abbrev pub invariant-loop-one : goal.invariant-loop-one
invariant-loop-one l = l.found.items ≡ filter (λ c. covers l.path c) (take l.one-index l.paths)
