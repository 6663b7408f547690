-- Leases in the order of grant, by the places of a chain. What only this crate's own functions say.
use Rattle.std.specs.Prelude.{◌≡◌, ◌+◌, ℕ, Bool, true, false, ◌++◌, List, ◌∷◌, length, Option, option_map, option_and_then}
use Rattle.cv_links.specs.declared.id.Id.{Id}
use Rattle.cv_links.specs.Arena.{value_at}
use Rattle.cv_leases.specs.declared.lease.Lease.{Lease}
use Rattle.cv_leases.specs.Leases.{unexpired}
use Rattle.cv_leases.specs.declared.queue.Queue.{Queue}
use Rattle.cv_leases.specs.Queue.{leases_by, leases_in}

-- the lease at a place, if there is one
abbrev pub lease_at : Queue → Option Id → Option Lease
lease_at queue place = option_and_then (λ id. option_map (λ entry. entry.lease) (value_at queue.entries id)) place

-- the second queue lacks the lease between these parts of the first
pub record IsParted (old new : Queue) (front back : List Id) (lease : Lease) : Type 0 where
  pub before : leases_in old ≡ leases_by (value_at old.entries) front ++ lease ∷ leases_by (value_at old.entries) back
  pub after : leases_in new ≡ leases_by (value_at old.entries) front ++ leases_by (value_at old.entries) back

-- a lease left the list, or else none is to leave it at this moment
abbrev pub IsDropped : ℕ → Bool → List Lease → List Lease → Type 0
IsDropped moment true old new = length old ≡ length new + 1
IsDropped moment false old new = new ≡ unexpired moment old
