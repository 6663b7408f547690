use Rattle.std.proofs.Common.{IfSome, subst, arith}
use Rattle.cv_leases.specs.Names.{IsWithin}
use Rattle.cv_leases.specs.NamesInner.{IsPrunedTo}
use Rattle.cv_leases.proofs.Needed.{pruned_last, near_next}
use Rattle.cv_leases.proofs.Places.{leased_on}
use Rattle.cv_leases.proofs.names.Names.prune.Goals as goal

pub returns-in_default-clause-pruned : goal.returns-in_default-clause-pruned
returns-in_default-clause-pruned g c = subst (λ o. IsPrunedTo c.loop-left.self o) c.in_default.is c.loop-left.invariant.pruned

pub drop_bare-at-requires-clause-pruned : goal.drop_bare-at-requires-clause-pruned
drop_bare-at-requires-clause-pruned g c = subst (λ o. IsPrunedTo c.loop-left.self o) c.in-Some.is c.loop-left.invariant.pruned

pub returns-clause-pruned : goal.returns-clause-pruned
returns-clause-pruned g c =
    pruned_last c.loop-left.self c.loop-left.at c.loop-left.left c.loop-left-test.false c.loop-left.invariant.whole c.loop-left.invariant.pruned c.loop-left.invariant.near

pub loop-left-preserved : goal.loop-left-preserved
loop-left-preserved g c =
    let before = c.loop-left.self in
    let after = c.drop_bare-at.new.self in
    let first = c.loop-left.invariant.steps in
    let then = c.drop_bare-at.ensures.steps in
    let some = c.loop-left-test.true in
    record {
      whole = c.drop_bare-at.ensures.whole;
      leases = leased_on c.args.self.now before after c.loop-left.invariant.leases c.drop_bare-at.ensures.leases;
      live = c.drop_bare-at.ensures.live;
      pruned = c.drop_bare-at.ensures.pruned;
      near =
          near_next before after c.in-Some.id c.loop-left.left c.drop_bare-at.result some c.drop_bare-at.ensures.nearer
          (subst (λ o. IfSome o (λ id. IsWithin before c.loop-left.left id)) c.in-Some.is c.loop-left.invariant.near);
      steps = omega (arith, first, then, some);
    }
