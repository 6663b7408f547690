use Rattle.cv_leases.proofs.Places.{leased_same}
use Rattle.cv_leases.proofs.Tied.{tied_in, tied_same}
use Rattle.cv_leases.proofs.linked.Linked.store.Goals as goal

pub returns-in_default-clause-whole : goal.returns-in_default-clause-whole
returns-in_default-clause-whole g c = record {
  queue = c.push.ensures.whole;
  names = c.prune.ensures.whole;
  pruned = c.prune.ensures.pruned;
  tied = tied_same c.args.self.now.queue c.push.new.self c.args.self.now.names c.prune.new.self c.requires.whole.tied c.in_default.ensures.entries c.prune.ensures.leases;
}

pub returns-clause-whole : goal.returns-clause-whole
returns-clause-whole g c = record {
  queue = c.push.ensures.whole;
  names = c.lease.ensures.whole;
  pruned = c.lease.ensures.pruned;
  tied =
      tied_in c.args.self.now.queue c.push.new.self c.args.self.now.names c.args.self.now.names c.lease.new.self c.args.entry c.requires.whole.tied (leased_same c.args.self.now.names)
      c.in-Ok.ensures.entries c.requires.place c.requires.free c.lease.ensures.leases;
}
