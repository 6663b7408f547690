use Rattle.std.proofs.Common.{◌≡◌, vec_len}
use Rattle.cv_ports.proofs.ShelfPuts.{IsPartOf}
use Rattle.cv_ports.proofs.memory_shelf.MemoryShelf.new.Given as goal

abbrev pub invariant-objects : goal.invariant-objects
invariant-objects l = record {
  objects : IsPartOf l.rest.items l.fn.objects.items l.shelf;
  calls : l.shelf.calls ≡ l.initial.shelf.calls;
  taken : l.shelf.taken ≡ l.initial.shelf.taken;
}

abbrev pub decreases-objects : goal.decreases-objects
decreases-objects l = vec_len l.rest
