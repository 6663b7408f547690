use Rattle.std.proofs.Common.{◌≡◌, ◌<◌, ◌∙◌, IfSome, Contains, slice_get, arith, sym, ap, subst}
use Rattle.cv_links.specs.Arena.{value_at}
use Rattle.cv_links.specs.Chains.{rest_of}
use Rattle.cv_leases.specs.Queue.{ids_of, leases_by, leases_in}
use Rattle.cv_leases.proofs.Queues.{first_at, none_left, one_on}
use Rattle.cv_leases.proofs.queue.Queue.place.Goals as goal

pub returns-in_default-clause-lease : goal.returns-in_default-clause-lease
returns-in_default-clause-lease g c =
    let q = c.args.self.now in
    sym (none_left q c.loop-left.left)
    ∙ subst (λ o. slice_get (leases_by (value_at q.entries) (rest_of q.entries q.order o)) c.loop-left.left ≡ slice_get (leases_in q) c.args.before) c.in_default.is c.loop-left.invariant.rest

pub loop-left-preserved : goal.loop-left-preserved
loop-left-preserved g c =
    let q = c.args.self.now in
    let within : Contains (ids_of q) c.in-Some.id = subst (λ o. IfSome o (λ id. Contains (ids_of q) id)) c.in-Some.is c.loop-left.invariant.within in
    let some : 0 < c.loop-left.left = omega arith in
    record {
      within = c.next-at.ensures.within;
      rest =
          sym (one_on q c.in-Some.id (rest_of q.entries q.order c.next-at.result) c.loop-left.left c.requires within some)
          ∙ ap (λ ids. slice_get (leases_by (value_at q.entries) ids) c.loop-left.left) (sym c.next-at.ensures.rest)
          ∙ subst (λ o. slice_get (leases_by (value_at q.entries) (rest_of q.entries q.order o)) c.loop-left.left ≡ slice_get (leases_in q) c.args.before) c.in-Some.is c.loop-left.invariant.rest;
    }

pub returns-clause-lease : goal.returns-clause-lease
returns-clause-lease g c =
    let q = c.args.self.now in
    let none : 0 ≡ c.loop-left.left = omega arith in
    first_at q c.loop-left.at c.requires c.loop-left.invariant.within
    ∙ ap (slice_get (leases_by (value_at q.entries) (rest_of q.entries q.order c.loop-left.at))) none
    ∙ c.loop-left.invariant.rest
