-- A queue of leases and the tree of the names on the way to them. What only this crate's own functions say.
use Rattle.std.specs.Prelude.{◌≡◌, ◌≢◌, ◌⊎◌, Result, Ok, Err}
use Rattle.cv_base.specs.declared.memory.NoMemory.{NoMemory}
use Rattle.cv_links.specs.declared.id.Id.{Id}
use Rattle.cv_leases.specs.declared.queue.Entry.{Entry}
use Rattle.cv_leases.specs.declared.queue.Queue.{Queue}
use Rattle.cv_leases.specs.declared.linked.Linked.{Linked}
use Rattle.cv_leases.specs.Queue.{IsQueue}
use Rattle.cv_leases.specs.Names.{IsNames}
use Rattle.cv_leases.specs.NamesInner.{IsPrunedBut}
use Rattle.cv_leases.specs.Linked.{AreTied, Holds}

-- and what holds while a place is made ready for a lease
pub record IsReady (linked : Linked) (place : Id) : Type 0 where
  pub queue : IsQueue linked.queue
  pub names : IsNames linked.names
  pub tied : AreTied linked.queue linked.names
  pub pruned : IsPrunedBut linked.names place

-- the second queue lacks this entry, and the others are as before
pub record TakesOut (old new : Queue) (id : Id) : Type 0 where
  pub left : (other : Id) (entry : Entry) → Holds new other entry → (other ≢ id) × Holds old other entry
  pub kept : (other : Id) (entry : Entry) → other ≢ id → Holds old other entry → Holds new other entry

-- the second queue has this entry besides the others
pub record PutsIn (old new : Queue) (added : Entry) : Type 0 where
  pub id : Id
  pub here : Holds new id added
  pub others : (other : Id) (e : Entry) → Holds new other e → ((other ≡ id) × (e ≡ added)) ⊎ ((other ≢ id) × Holds old other e)
  pub kept : (other : Id) (e : Entry) → Holds old other e → Holds new other e

-- both have the same entries
pub record SameEntries (old new : Queue) : Type 0 where
  pub was : (id : Id) (entry : Entry) → Holds new id entry → Holds old id entry
  pub is : (id : Id) (entry : Entry) → Holds old id entry → Holds new id entry

-- an entry is put in, or none is
abbrev pub Stores : Result Unit NoMemory → Queue → Queue → Entry → Type 0
Stores (Ok done) old new entry = PutsIn old new entry
Stores (Err fault) old new entry = SameEntries old new
