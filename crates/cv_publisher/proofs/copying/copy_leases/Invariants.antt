use Rattle.std.proofs.Common.{◌≡◌, take}
use Rattle.cv_publisher.proofs.copying.copy_leases.Given as goal

abbrev pub invariant-loop-lease : goal.invariant-loop-lease
invariant-loop-lease l = l.made.items ≡ take l.lease-index l.leases
