use Rattle.std.proofs.Common.{◌≤◌, ◌∙◌, map, sym, subst}
use Rattle.std.specs.List.{AllByRecursion}
use Rattle.cv_leases.specs.declared.lease.Lease.{Lease}
use Rattle.cv_leases_tests.proofs.Last.{none_later}
use Rattle.cv_leases_tests.proofs.tests.is_last.Goals as goal

pub returns : goal.returns
returns c = λ passes.
    subst (AllByRecursion (λ (other : Lease). other.deadline ≤ c.args.deadline)) c.in_ok-leases.ensures
    (subst (λ xs. AllByRecursion (λ (other : Lease). other.deadline ≤ c.args.deadline) (map (λ lease. lease.now) xs)) c.deref.ensures.value
    (none_later (λ lease. lease.now) c.args.deadline c.deref.result.now (sym c.ends_last.ensures ∙ passes)))
