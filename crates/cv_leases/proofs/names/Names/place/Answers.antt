use Rattle.std.proofs.Common.{◌≡◌, ◌∙◌, Some, length, take, ap, subst, inl, inr, arith}
use Rattle.cv_links.specs.Arena.{value_at}
use Rattle.cv_leases.specs.Names.{named, below_of, place_of}
use Rattle.cv_leases.proofs.Climbing.{within_more, root_within}
use Rattle.cv_leases.proofs.Places.{leased_on, one_more, next_name}
use Rattle.cv_leases.proofs.names.Names.place.Goals as goal

pub prune-requires-clause-live : goal.prune-requires-clause-live
prune-requires-clause-live g c = c.child_or_new.ensures.stays

pub loop-name-preserved : goal.loop-name-preserved
loop-name-preserved g c =
    let new = c.child_or_new.new.self in
    let so_far = take c.loop-name.name-index c.args.path.now in
    record {
      whole = c.child_or_new.ensures.whole;
      leases = leased_on c.args.self.now c.loop-name.self new c.loop-name.invariant.leases c.child_or_new.ensures.leases;
      live = c.in-Ok.ensures.live;
      pruned = c.in-Ok.ensures.pruned;
      near = c.in-Ok.ensures.below c.loop-name.name-index c.loop-name.invariant.near;
      so_far =
          ap (place_of new) (next_name c.names-name-items.result.now c.args.path.now c.loop-name.name-index c.name-item.result c.loop-name-test.true c.name-item.is c.names-name-items.ensures.names)
          ∙ one_more new so_far c.name-item.result c.loop-name.at c.in-Ok.id (c.child_or_new.ensures.places so_far c.loop-name.at c.loop-name.invariant.so_far)
          (subst (λ name. named (value_at new.places) name (below_of new.places c.loop-name.at) ≡ Some c.in-Ok.id) c.as_str.ensures c.in-Ok.ensures.named);
    }

pub child_or_new-requires-clause-near : goal.child_or_new-requires-clause-near
child_or_new-requires-clause-near g c =
    let few = c.names-name-items.ensures.limits.depth in
    let same = ap length c.names-name-items.ensures.names in
    let within = c.loop-name-test.true in
    within_more c.loop-name.self c.loop-name.name-index 63 c.loop-name.at (omega (arith, few, same, within)) c.loop-name.invariant.near

pub child_or_new-requires-clause-pruned : goal.child_or_new-requires-clause-pruned
child_or_new-requires-clause-pruned g c = c.loop-name.invariant.pruned

pub returns-clause-pruned : goal.returns-clause-pruned
returns-clause-pruned g c = c.loop-name.invariant.pruned

pub returns-in-Err-clause-leases : goal.returns-in-Err-clause-leases
returns-in-Err-clause-leases g c =
    leased_on c.args.self.now c.loop-name.self c.prune.new.self c.loop-name.invariant.leases
    (leased_on c.loop-name.self c.child_or_new.new.self c.prune.new.self c.child_or_new.ensures.leases c.prune.ensures.leases)

pub loop-name-init : goal.loop-name-init
loop-name-init g c = record {
  whole = c.top.ensures.whole;
  leases = c.top.ensures.leases;
  live = c.in_ok-at.ensures.live;
  pruned = λ id live. elim (c.top.ensures.pruned id live) [
    | inl is ↦ inl is
    | inr needed ↦ inr (inl needed)
  ];
  near = root_within c.top.new.self c.in_ok-at.at c.in_ok-at.ensures.root;
  so_far = c.in_ok-at.ensures.root;
}
