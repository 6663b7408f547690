use Rattle.cv_leases.proofs.OnePath.{free_place}
use Rattle.cv_leases.proofs.Tied.{tied_same, same_entries}
use Rattle.cv_leases.proofs.linked.Linked.grant.Goals as goal

pub store-requires-clause-free : goal.store-requires-clause-free
store-requires-clause-free g c =
    free_place c.args.self.now.queue c.args.self.now.names c.place.new.self c.args.lease.path c.in_ok-place.place c.requires.whole.tied c.place.ensures.whole c.place.ensures.leases
    c.in_ok-place.ensures.place c.requires.free

pub returns-in_err-place-clause-whole : goal.returns-in_err-place-clause-whole
returns-in_err-place-clause-whole g c =
    let q = c.args.self.now.queue in
    record {
      queue = c.requires.whole.queue;
      names = c.place.ensures.whole;
      tied = tied_same q q c.args.self.now.names c.place.new.self c.requires.whole.tied (same_entries q) c.place.ensures.leases;
      pruned = c.in_err-place.ensures.unchanged;
    }

pub store-requires-clause-whole : goal.store-requires-clause-whole
store-requires-clause-whole g c =
    let q = c.args.self.now.queue in
    record {
      queue = c.requires.whole.queue;
      names = c.place.ensures.whole;
      tied = tied_same q q c.args.self.now.names c.place.new.self c.requires.whole.tied (same_entries q) c.place.ensures.leases;
      pruned = c.in_ok-place.ensures.pruned;
    }
