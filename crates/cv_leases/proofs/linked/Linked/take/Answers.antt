use Rattle.std.proofs.Common.{option_map, ap}
use Rattle.cv_links.specs.Arena.{value_at}
use Rattle.cv_leases.specs.declared.queue.Entry.{Entry}
use Rattle.cv_leases.proofs.Tied.{tied_out, leased_live}
use Rattle.cv_leases.proofs.linked.Linked.take.Goals as goal

pub end-requires-clause-live : goal.end-requires-clause-live
end-requires-clause-live g c =
    leased_live (value_at c.args.self.now.names.places c.take-lease.result.place)
    (c.requires.whole.tied.places c.args.id c.take-lease.result (record { within = c.requires.stands; entry = c.take-lease.ensures.value })).leased

pub returns-clause-whole : goal.returns-clause-whole
returns-clause-whole g c = record {
  queue = c.take-lease.ensures.whole;
  names = c.end.ensures.whole;
  pruned = c.end.ensures.pruned;
  tied =
      tied_out c.args.self.now.queue c.take-lease.new.self c.args.self.now.names c.end.new.self c.args.id c.take-lease.result c.requires.whole.tied
      (record { within = c.requires.stands; entry = c.take-lease.ensures.value }) c.take-lease.ensures.entries c.end.ensures.leases;
}

pub returns-clause-value : goal.returns-clause-value
returns-clause-value g c = ap (option_map (λ (entry : Entry). entry.lease)) c.take-lease.ensures.value
