use Rattle.std.proofs.Common.{◌≡◌, ◌≤◌, ◌*◌, take}
use Rattle.cv_pack.specs.Pack.{total_size}
use Rattle.cv_pack.proofs.header_reader.sum_of_sizes.Given as goal

abbrev pub invariant-loop-entry : goal.invariant-loop-entry
invariant-loop-entry l = (l.sum ≡ total_size (take l.entry-index l.entries)) × (l.sum ≤ l.entry-index * 4294967295)
