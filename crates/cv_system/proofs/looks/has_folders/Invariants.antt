use Rattle.std.proofs.Common.{◌≡◌, ◌++◌, List, ℕ, take, drop}
use Rattle.cv_system.specs.Looks.{SeesFolders, folders_behind, folders_past}
use Rattle.cv_system.specs.Steps.{IsLook, Makes}
use Rattle.cv_system.proofs.looks.has_folders.Given as goal

abbrev pub invariant-loop-end : goal.invariant-loop-end
invariant-loop-end g l = record {
  looks : Makes IsLook (g.S.System.log l.fn.system) (g.S.System.log l.system);
  through : (front : List (List ℕ)) × (front ++ folders_behind (take l.end l.path) (drop l.end l.path) ≡ folders_past l.from l.path)
      × SeesFolders front (g.S.System.log l.fn.system) (g.S.System.log l.system);
}
