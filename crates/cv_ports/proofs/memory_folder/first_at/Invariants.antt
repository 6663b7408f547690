use Rattle.std.proofs.Common.{◌≡◌, drop}
use Rattle.std.specs.FinMap.{find}
use Rattle.cv_base.specs.Path.{path_cmp}
use Rattle.cv_ports.proofs.memory_folder.first_at.Given as goal

abbrev pub invariant-loop-entry : goal.invariant-loop-entry
invariant-loop-entry g l = find path_cmp l.path (drop l.entry-index l.entries) ≡ find path_cmp l.path l.entries
