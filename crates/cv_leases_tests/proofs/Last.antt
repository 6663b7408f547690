-- Deadlines of leases.
use Rattle.std.proofs.Common.{ℕ, ◌≡◌, ◌≤◌, nat_le, true, List, [], ◌∷◌}
use Rattle.std.specs.Prelude.{map}
use Rattle.std.specs.List.{list_all, AllByRecursion}
use Rattle.std.proofs.lemmas.Bool.{and_parts, leb-true}
use Rattle.cv_leases.specs.declared.lease.Lease.{Lease}

-- leases of which each passes the test end no later
pub none_later : {X : Type 0} (now : X → Lease) (deadline : ℕ) (xs : List X) → list_all (λ x. nat_le (now x).deadline deadline) xs ≡ true → AllByRecursion (λ (other : Lease). other.deadline ≤ deadline) (map now xs)
none_later now deadline [] h = tt
none_later now deadline (x ∷ xs) h =
    let parts = and_parts (nat_le (now x).deadline deadline) (list_all (λ x. nat_le (now x).deadline deadline) xs) h in
    (leb-true _ _ parts.0, none_later now deadline xs parts.1)
