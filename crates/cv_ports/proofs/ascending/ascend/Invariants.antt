use Rattle.std.proofs.Common.{◌≡◌, ◌-◌, drop}
use Rattle.cv_ports.specs.Folder.{ascends}
use Rattle.cv_ports.proofs.ascending.ascend.Given as goal

abbrev pub invariant-loop-i : goal.invariant-loop-i
invariant-loop-i l = ascends (drop (l.i - 1) l.items) ≡ ascends l.items
