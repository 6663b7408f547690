use Rattle.std.proofs.Common.{◌≡◌, map, take}
use Rattle.cv_gate.specs.Lines.{lines_of}
use Rattle.cv_desk.proofs.listing.list_leases.Given as goal

abbrev pub invariant-loop-lease : goal.invariant-loop-lease
invariant-loop-lease l = l.lines.items ≡ lines_of l.fn.moment (map (λ lease. lease.now) (take l.lease-index l.lease-items))

abbrev pub ghosts-all_leases : goal.ghosts-all_leases
ghosts-all_leases a = record { name = a.blank.name; parts = a.blank.parts }
