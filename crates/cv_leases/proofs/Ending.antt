-- Lists of leases as one is found by its token and leaves, or as the first is due.
use Rattle.std.proofs.Common.{◌≡◌, ◌≤◌, ◌<◌, ℕ, zero, suc, not, true, false, cond, nat_lt, List, [], ◌∷◌, ◌++◌, Some, None, refl, sym, ap, subst, arith}
use Rattle.std.proofs.lemmas.Bool.{ltb-true, lt-ltb}
use Rattle.std.specs.List.{AllByRecursion}
use Rattle.std.proofs.lemmas.List.Elements.{recursion_from_All}
use Rattle.cv_base.specs.declared.token.Token.{Token}
use Rattle.cv_leases.specs.declared.lease.Lease.{Lease}
use Rattle.cv_leases.specs.Leases.{same_token, lease_of, without, unexpired, TokensDiffer, DeadlinesRise}
use Rattle.cv_leases.proofs.Tables.{same_token_is, same_token_itself}

-- ---- by its token

-- where no lease has the token, none leaves
pub none_leaves : (token : Token) (ls : List Lease) → lease_of token ls ≡ None → without token ls ≡ ls
none_leaves token [] none = refl
none_leaves token (first ∷ ls) none =
    elim (same_token first.token token) as (λ b. same_token first.token token ≡ b → cond b (Some first) (lease_of token ls) ≡ None → cond (not b) (first ∷ without token ls) (without token ls) ≡ first ∷ ls) [
      | true ↦ λ e is. absurd cc
      | false ↦ λ e is. ap (λ rest. first ∷ rest) (none_leaves token ls is)
    ] refl none

-- no lease has the token where each has another
none_of : (token : Token) (ls : List Lease) → AllByRecursion (λ l. same_token token l.token ≡ false) ls → without token ls ≡ ls
none_of token [] h = refl
none_of token (first ∷ ls) h =
    elim (same_token first.token token) as (λ b. same_token first.token token ≡ b → cond (not b) (first ∷ without token ls) (without token ls) ≡ first ∷ ls) [
      | true ↦ λ e. let same : first.token ≡ token = same_token_is first.token token e in
          let itself : same_token token token ≡ true = subst (λ (t : Token). same_token t token ≡ true) same e in
          let other : same_token token token ≡ false = subst (λ (t : Token). same_token token t ≡ false) same h.0 in absurd cc
      | false ↦ λ e. ap (λ rest. first ∷ rest) (none_of token ls h.1)
    ] refl

first_differs : (first : Lease) (ls : List Lease) → TokensDiffer (first ∷ ls) → AllByRecursion (λ l. same_token first.token l.token ≡ false) ls
first_differs first ls h = recursion_from_All (λ l. same_token first.token l.token ≡ false) ls (λ k d within. h zero (suc k) d (omega arith) (omega (arith, within)))

rest_differ : (first : Lease) (ls : List Lease) → TokensDiffer (first ∷ ls) → TokensDiffer ls
rest_differ first ls h = λ i j d below within. h (suc i) (suc j) d (omega (arith, below)) (omega (arith, within))

-- the lease with the token leaves the others
pub leaves : (token : Token) (front back : List Lease) (lease : Lease) → TokensDiffer (front ++ lease ∷ back) → lease.token ≡ token → without token (front ++ lease ∷ back) ≡ front ++ back
leaves token [] back lease h has =
    elim (same_token lease.token token) as (λ b. same_token lease.token token ≡ b → cond (not b) (lease ∷ without token back) (without token back) ≡ back) [
      | true ↦ λ e. none_of token back (subst (λ (t : Token). AllByRecursion (λ l. same_token t l.token ≡ false) back) has (first_differs lease back h))
      | false ↦ λ e. absurd (itself e)
    ] refl
  where
    itself : same_token lease.token token ≡ false → ⊥
    itself e = let own = same_token_itself token in let other : same_token token token ≡ false = subst (λ (t : Token). same_token t token ≡ false) has e in cc
leaves token (first ∷ front) back lease h has =
    let apart : AllByRecursion (λ l. same_token first.token l.token ≡ false) (front ++ lease ∷ back) = first_differs first (front ++ lease ∷ back) h in
    let other : same_token first.token lease.token ≡ false = inside front apart in
    let kept : same_token first.token token ≡ false = subst (λ (t : Token). same_token first.token t ≡ false) has other in
    rw kept (ap (λ rest. first ∷ rest) (leaves token front back lease (rest_differ first (front ++ lease ∷ back) h) has))
  where
    inside : (xs : List Lease) → AllByRecursion (λ l. same_token first.token l.token ≡ false) (xs ++ lease ∷ back) → same_token first.token lease.token ≡ false
    inside [] a = a.0
    inside (x ∷ xs) a = inside xs a.1

-- ---- by its deadline

first_soonest : (first : Lease) (ls : List Lease) → DeadlinesRise (first ∷ ls) → AllByRecursion (λ l. first.deadline ≤ l.deadline) ls
first_soonest first ls h = recursion_from_All (λ l. first.deadline ≤ l.deadline) ls (λ k d within. h zero (suc k) d (omega arith) (omega (arith, within)))

pub rest_rise : (first : Lease) (ls : List Lease) → DeadlinesRise (first ∷ ls) → DeadlinesRise ls
rest_rise first ls h = λ i j d below within. h (suc i) (suc j) d (omega (arith, below)) (omega (arith, within))

all_last : (moment deadline : ℕ) (ls : List Lease) → moment < deadline → AllByRecursion (λ l. deadline ≤ l.deadline) ls → unexpired moment ls ≡ ls
all_last moment deadline [] later h = refl
all_last moment deadline (first ∷ ls) later h =
    let soonest = h.0 in
    let lasts : nat_lt moment first.deadline ≡ true = lt-ltb moment first.deadline (omega (arith, later, soonest)) in
    rw lasts (ap (λ rest. first ∷ rest) (all_last moment deadline ls later h.1))

-- where the first isn't due, none is
pub none_due : (moment : ℕ) (first : Lease) (ls : List Lease) → DeadlinesRise (first ∷ ls) → moment < first.deadline → first ∷ ls ≡ unexpired moment (first ∷ ls)
none_due moment first ls rise later =
    let lasts : nat_lt moment first.deadline ≡ true = lt-ltb moment first.deadline later in
    rw lasts (ap (λ rest. first ∷ rest) (sym (all_last moment first.deadline ls later (first_soonest first ls rise))))

-- one that is due makes no difference
pub due : (moment : ℕ) (first : Lease) (ls : List Lease) → first.deadline ≤ moment → unexpired moment ls ≡ unexpired moment (first ∷ ls)
due moment first ls over =
    elim (nat_lt moment first.deadline) as (λ b. nat_lt moment first.deadline ≡ b → unexpired moment ls ≡ cond b (first ∷ unexpired moment ls) (unexpired moment ls)) [
      | true ↦ λ e. absurd (let later = ltb-true moment first.deadline e in omega (arith, later, over))
      | false ↦ λ e. refl
    ] refl
