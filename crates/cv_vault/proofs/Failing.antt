-- The failures that are still to come.
use Rattle.std.proofs.Common.{◌≡◌, ℕ, zero, suc, ◌+◌, ◌<◌, ◌≤◌, ◌^◌, Bool, true, false, cond, List, [], ◌∷◌, ◌==◌, nat_lt, refl, arith}
use Rattle.std.specs.List.{count_by}
use Rattle.std.proofs.lemmas.List.Sums.{sum_by-cons}
use Rattle.std.proofs.lemmas.Bool.Decides.{nat_tests}
use Rattle.cv_base.specs.Counts.{last_count}
use Rattle.cv_vault.specs.Failures.{later_failures}
use Rattle.cv_vault.specs.FailuresInner.{fate_of, fate_fails}
use Rattle.cv_vault.specs.declared.fate.Fate.{Fate}

one_step : (c k : ℕ) → cond (nat_lt c k) 1 0 ≡ cond (nat_lt (c + 1) k) 1 0 + cond (k == c + 1) 1 0
one_step c k = grind (arith, nat_tests)

-- those of later calls are those after the next call, and those of the next
later_step : (fs : List ℕ) (c : ℕ) → later_failures fs c ≡ later_failures fs (c + 1) + count_by (λ k. k == c + 1) fs
later_step [] c = refl
later_step (k ∷ fs) c =
    let rest = later_step fs c in
    let here = one_step c k in
    let a = sum_by-cons (λ j. cond (nat_lt c j) 1 0) k fs in
    let b = sum_by-cons (λ j. cond (nat_lt (c + 1) j) 1 0) k fs in
    let d = sum_by-cons (λ j. cond (j == c + 1) 1 0) k fs in
    omega arith

bit_small : (b : Bool) → cond b 1 0 ≤ 1
bit_small true = omega arith
bit_small false = omega arith

failure_met : (n : ℕ) → cond (fate_fails (fate_of n)) 1 0 ≤ n
failure_met zero = omega arith
failure_met (suc n) = omega (arith, bit_small (fate_fails (fate_of (suc n))))

pub later_next : (fs : List ℕ) (c number times : ℕ) (fate : Fate) → number ≡ c + 1 → times ≡ count_by (λ k. k == number) fs → fate ≡ fate_of times
    → later_failures fs number + cond (fate_fails fate) 1 0 ≤ later_failures fs c
later_next fs c number times fate n t f =
    let met : cond (fate_fails fate) 1 0 ≤ times = rw f (failure_met times) in
    let step : later_failures fs c ≡ later_failures fs number + times = rw (t, n) (later_step fs c) in
    omega arith

pub past_the_last : (c : ℕ) → (c + 1 < 2 ^ 64 → ⊥) → nat_lt c last_count ≡ false
past_the_last c h = grind (arith, nat_tests)
