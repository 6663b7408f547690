-- Leases in the order of grant, by the places of a chain.
use Rattle.std.specs.Prelude.{◌≡◌, ◌≢◌, List, [], ◌∷◌, length, Option, Some, None}
use Rattle.cv_links.specs.declared.id.Id.{Id}
use Rattle.cv_links.specs.declared.lane.Lane.{Lane}
use Rattle.cv_links.specs.Arena.{value_at, IsFree, IsLive}
use Rattle.cv_links.specs.Chains.{IsChain, list_of}
use Rattle.cv_leases.specs.declared.lease.Lease.{Lease}
use Rattle.cv_leases.specs.declared.queue.Entry.{Entry}
use Rattle.cv_leases.specs.declared.queue.Queue.{Queue}

-- an entry's lease before the rest
abbrev pub before_rest : Option Entry → List Lease → List Lease
before_rest None rest = rest
before_rest (Some entry) rest = entry.lease ∷ rest

-- the leases at these places
abbrev pub leases_by : (Id → Option Entry) → List Id → List Lease
leases_by at [] = []
leases_by at (id ∷ ids) = before_rest (at id) (leases_by at ids)

-- the places of a queue, in order
abbrev pub ids_of : Queue → List Id
ids_of queue = list_of queue.entries queue.order

-- the leases of a queue, in order
abbrev pub leases_in : Queue → List Lease
leases_in queue = leases_by (value_at queue.entries) (ids_of queue)

-- what holds of a queue at any time: its chain is of its entries, which stand in no other lane, and they are counted
pub record IsQueue (queue : Queue) : Type 0 where
  pub chain : IsChain queue.entries queue.order
  pub alone : (lane : Lane) → lane ≢ queue.order.lane → (id : Id) → IsLive queue.entries id → IsFree queue.entries lane id
  pub count : queue.count ≡ length (leases_in queue)
