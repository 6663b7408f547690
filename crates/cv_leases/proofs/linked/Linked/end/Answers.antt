use Rattle.std.proofs.Common.{◌≡◌, ◌∙◌, IfSome, Contains, Some, is_some, sym, ap, subst}
use Rattle.cv_leases.specs.Leases.{lease_of}
use Rattle.cv_leases.specs.Queue.{ids_of, leases_in}
use Rattle.cv_leases.specs.QueueInner.{lease_at}
use Rattle.cv_leases.proofs.Ending.{none_leaves}
use Rattle.cv_leases.proofs.Queues.{ended}
use Rattle.cv_leases.proofs.linked.Linked.end.Goals as goal

pub returns-in-Some-clause-there : goal.returns-in-Some-clause-there
returns-in-Some-clause-there g c =
    let q = c.args.self.now.queue in
    sym (ap is_some (sym (subst (λ o. lease_at q o ≡ lease_of c.args.token (leases_in q)) c.in-Some.is c.seek.ensures.lease) ∙ c.take-ended.ensures.value))

pub returns-in-Some-clause-leases : goal.returns-in-Some-clause-leases
returns-in-Some-clause-leases g c =
    let q = c.args.self.now.queue in
    let found : lease_of c.args.token (leases_in q) ≡ Some c.take-ended.result = sym (subst (λ o. lease_at q o ≡ lease_of c.args.token (leases_in q)) c.in-Some.is c.seek.ensures.lease) ∙ c.take-ended.ensures.value in
    let within : Contains (ids_of q) c.in-Some.id = subst (λ o. IfSome o (λ id. Contains (ids_of q) id)) c.in-Some.is c.seek.ensures.within in
    ended q c.take-ended.new.self.queue c.in-Some.id c.take-ended.result c.args.token c.requires.tokens within found c.take-ended.ensures.leases

pub returns-clause-leases : goal.returns-clause-leases
returns-clause-leases g c =
    let q = c.args.self.now.queue in
    sym (none_leaves c.args.token (leases_in q) (sym (subst (λ o. lease_at q o ≡ lease_of c.args.token (leases_in q)) c.in-None.is c.seek.ensures.lease)))
