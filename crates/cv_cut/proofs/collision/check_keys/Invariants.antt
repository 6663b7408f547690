use Rattle.std.proofs.Common.{take}
use Rattle.std.specs.List.{All}
use Rattle.cv_tree.specs.Tree.{at}
use Rattle.cv_cut.specs.Region.{KeysApart}
use Rattle.cv_cut.proofs.collision.check_keys.Given as goal

abbrev pub invariant-loop-cut : goal.invariant-loop-cut
invariant-loop-cut l = All (λ c. KeysApart c (at l.tree c)) (take l.cut-index l.cuts)
