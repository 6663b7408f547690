use Rattle.std.proofs.Common.{◌≡◌, ◌∙◌, ◌++◌, List, map, append-nil, sym, ap, subst}
use Rattle.cv_links.specs.Arena.{value_at}
use Rattle.cv_links.specs.Chains.{rest_of}
use Rattle.cv_links.proofs.Laws.{rest_none}
use Rattle.cv_leases.specs.Queue.{leases_by, leases_in}
use Rattle.cv_leases.specs.declared.lease.Lease.{Lease}
use Rattle.cv_leases.proofs.queue.Queue.leases.Goals as goal

pub returns-clause-leases : goal.returns-clause-leases
returns-clause-leases g c =
    let q = c.args.self.now in
    let listed : List Lease = map (λ lease. lease.now) c.loop-at.leases.items in
    sym (append-nil listed)
    ∙ ap (λ ids. listed ++ leases_by (value_at q.entries) ids) (sym (rest_none q.entries q.order))
    ∙ subst (λ o. listed ++ leases_by (value_at q.entries) (rest_of q.entries q.order o) ≡ leases_in q) c.in_default.is c.loop-at.invariant.listed
