use Rattle.std.proofs.Common.{◌≡◌, ◌∙◌, IfSome, Contains, option_map, rules, sym, ap, subst}
use Rattle.cv_links.specs.Arena.{value_at}
use Rattle.cv_links.specs.Chains.{rest_of}
use Rattle.cv_links.proofs.Laws.{live_in, rest_none}
use Rattle.cv_leases.specs.Leases.{lease_of}
use Rattle.cv_leases.specs.Queue.{ids_of, leases_by, leases_in}
use Rattle.cv_leases.proofs.Queues.{seek_found}
use Rattle.cv_leases.proofs.queue.Queue.seek.Goals as goal

pub returns-then-eq-clause-lease : goal.returns-then-eq-clause-lease
returns-then-eq-clause-lease g c =
    let q = c.args.self.now in
    let within : Contains (ids_of q) c.in-Some.id = subst (λ o. IfSome o (λ id. Contains (ids_of q) id)) c.in-Some.is c.loop-at.invariant.within in
    ap (option_map (λ entry. entry.lease)) c.get.ensures
    ∙ sym (seek_found q c.in-Some.id c.args.token c.get.result.now c.requires within c.get.ensures (search rules))
    ∙ subst (λ o. lease_of c.args.token (leases_by (value_at q.entries) (rest_of q.entries q.order o)) ≡ lease_of c.args.token (leases_in q)) c.in-Some.is c.loop-at.invariant.rest

pub get-requires : goal.get-requires
get-requires g c =
    let q = c.args.self.now in
    live_in q.entries q.order (ids_of q) c.in-Some.id c.requires.chain (subst (λ o. IfSome o (λ id. Contains (ids_of q) id)) c.in-Some.is c.loop-at.invariant.within)

pub returns-clause-lease : goal.returns-clause-lease
returns-clause-lease g c =
    let q = c.args.self.now in
    ap (λ ids. lease_of c.args.token (leases_by (value_at q.entries) ids)) (sym (rest_none q.entries q.order))
    ∙ subst (λ o. lease_of c.args.token (leases_by (value_at q.entries) (rest_of q.entries q.order o)) ≡ lease_of c.args.token (leases_in q)) c.in_default.is c.loop-at.invariant.rest
