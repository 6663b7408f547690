use Rattle.std.proofs.Common.{◌≡◌, ◌++◌}
use Rattle.std.specs.Vec.Iter.{into_iter_items}
use Rattle.cv_ports.specs.MemoryShelf.{standing}
use Rattle.cv_publisher.specs.Assembling.{unfetched}
use Rattle.cv_publisher.proofs.assembling.unfetched.Given as goal

abbrev pub invariant-loop-object : goal.invariant-loop-object
invariant-loop-object l = record {
  items : l.new.items ++ unfetched (standing l.initial.fetched) (into_iter_items l.object-iterator) ≡ unfetched (standing l.initial.fetched) l.fn.made;
  same : standing l.fetched ≡ standing l.initial.fetched;
}
