use Rattle.std.proofs.Common.{◌≡◌, take}
use Rattle.std.specs.List.{flat_map}
use Rattle.cv_client.specs.Texts.{ended}
use Rattle.cv_client.proofs.printing.name_lines.Given as goal

abbrev pub invariant-loop-name : goal.invariant-loop-name
invariant-loop-name l = l.out.items ≡ flat_map ended (take l.name-index l.names)
