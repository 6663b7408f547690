use Rattle.std.proofs.Common.{◌≡◌, map, take}
use Rattle.cv_resolver.proofs.listing.names_of.Given as goal

abbrev pub invariant-loop-row : goal.invariant-loop-row
invariant-loop-row l = l.names.items ≡ map (λ r. r.name) (take l.row-index l.rows)
