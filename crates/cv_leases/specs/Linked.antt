-- A queue of leases and the tree of the names on the way to them.
use Rattle.std.specs.Prelude.{◌≡◌, ◌≢◌, true, Some, Contains}
use Rattle.cv_links.specs.declared.id.Id.{Id}
use Rattle.cv_links.specs.Arena.{value_at}
use Rattle.cv_leases.specs.declared.queue.Entry.{Entry}
use Rattle.cv_leases.specs.declared.queue.Queue.{Queue}
use Rattle.cv_leases.specs.declared.names.Names.{Names}
use Rattle.cv_leases.specs.declared.linked.Linked.{Linked}
use Rattle.cv_leases.specs.Queue.{IsQueue, ids_of}
use Rattle.cv_leases.specs.Names.{IsNames, IsLeasedAt, IsPruned, is_leased}

-- this entry stands in the queue
pub record Holds (queue : Queue) (at : Id) (held : Entry) : Type 0 where
  pub within : Contains (ids_of queue) at
  pub entry : value_at queue.entries at ≡ Some held

-- an entry of the queue whose lease ends at this place
pub record HasEntry (queue : Queue) (at : Id) : Type 0 where
  pub id : Id
  pub entry : Entry
  pub holds : Holds queue id entry
  pub place : entry.place ≡ at

-- the path of each lease leads to its own place, and leases end at no others
pub record AreTied (queue : Queue) (names : Names) : Type 0 where
  pub places : (id : Id) (entry : Entry) → Holds queue id entry → IsLeasedAt names entry.lease.path entry.place
  pub apart : (i j : Id) (e f : Entry) → i ≢ j → Holds queue i e → Holds queue j f → e.place ≢ f.place
  pub only : (place : Id) → is_leased (value_at names.places place) ≡ true → HasEntry queue place

-- what holds of both at any time
pub record IsLinked (linked : Linked) : Type 0 where
  pub queue : IsQueue linked.queue
  pub names : IsNames linked.names
  pub tied : AreTied linked.queue linked.names
  pub pruned : IsPruned linked.names
