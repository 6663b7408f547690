use Rattle.std.proofs.Common.{◌≡◌, ◌++◌, List, ℕ, length}
use Rattle.cv_system.specs.Names.{names_in}
use Rattle.cv_system.specs.Walks.{LooksAtAll}
use Rattle.cv_system.proofs.walk.look_at.Given as goal

abbrev pub invariant-loop-name : goal.invariant-loop-name
invariant-loop-name g l = record {
  folder : l.place.folder ≡ l.fn.place.folder;
  last : l.place.last ≡ l.fn.place.last;
  looks : (names : List (List ℕ)) × (names_in l.names ≡ names ++ names_in l.rest)
      × LooksAtAll l.fn.place.folder l.fn.place.last names l.fn.place.ahead l.place.ahead (g.S.System.log l.fn.system) (g.S.System.log l.system);
}

abbrev pub decreases-loop-name : goal.decreases-loop-name
decreases-loop-name g l = length l.rest
