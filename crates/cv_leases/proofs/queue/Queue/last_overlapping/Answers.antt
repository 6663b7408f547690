use Rattle.std.proofs.Common.{◌≡◌, ◌∙◌, IfSome, Contains, sym, ap, subst}
use Rattle.std.specs.List.{filter, last_or}
use Rattle.cv_base.specs.Path.{overlap}
use Rattle.cv_links.specs.Arena.{value_at}
use Rattle.cv_links.specs.Chains.{rest_of}
use Rattle.cv_links.proofs.Laws.{live_in, rest_none}
use Rattle.cv_leases.specs.Leases.{busy}
use Rattle.cv_leases.specs.Queue.{ids_of, leases_by, leases_in}
use Rattle.cv_leases.specs.QueueInner.{lease_at}
use Rattle.cv_leases.proofs.queue.Queue.last_overlapping.Goals as goal

pub get-requires : goal.get-requires
get-requires g c =
    let q = c.args.self.now in
    live_in q.entries q.order (ids_of q) c.in-Some.id c.requires.chain (subst (λ o. IfSome o (λ id. Contains (ids_of q) id)) c.in-Some.is c.loop-at.invariant.within)

pub returns-clause-lease : goal.returns-clause-lease
returns-clause-lease g c =
    let q = c.args.self.now in
    ap (λ ids. last_or (lease_at q c.loop-at.last) (filter (λ lease. overlap lease.path c.args.path.now) (leases_by (value_at q.entries) ids))) (sym (rest_none q.entries q.order))
    ∙ subst (λ o. last_or (lease_at q c.loop-at.last) (filter (λ lease. overlap lease.path c.args.path.now) (leases_by (value_at q.entries) (rest_of q.entries q.order o))) ≡ busy (leases_in q) c.args.path.now) c.in_default.is c.loop-at.invariant.rest
