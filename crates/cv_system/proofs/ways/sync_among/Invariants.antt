use Rattle.std.proofs.Common.{◌≡◌, ◌++◌, List, ℕ, length}
use Rattle.cv_system.specs.Names.{names_in}
use Rattle.cv_system.specs.Ways.{SyncsWays, done}
use Rattle.cv_system.proofs.ways.sync_among.Given as goal

abbrev pub invariant-loop-name : goal.invariant-loop-name
invariant-loop-name g l =
    (names : List (List ℕ)) × (names_in l.names ≡ names ++ names_in l.rest) × SyncsWays l.folder names done (g.S.System.log l.fn.system) (g.S.System.log l.system)

abbrev pub decreases-loop-name : goal.decreases-loop-name
decreases-loop-name g l = length l.rest
