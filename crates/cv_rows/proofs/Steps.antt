-- Steps up from index to index.
use Rattle.std.proofs.Common.{◌≡◌, ℕ, zero, suc, ◌+◌, ◌^◌, ◌<◌, List, length, get_or, refl, sym, ap, ◌∙◌, arith}
use Rattle.cv_rows.specs.ParentsInner.{step, times, AreAbove, AreInside}

pub times_inside : (parents : List ℕ) (n i : ℕ) → AreInside parents → i < length parents → times parents n i < length parents
unfolding times
times_inside parents zero i inside lt = lt
times_inside parents (suc n) i inside lt = times_inside parents n (step parents i) inside (inside i lt)

pub times_sum : (parents : List ℕ) (m n i : ℕ) → times parents (m + n) i ≡ times parents n (times parents m i)
unfolding times
times_sum parents zero n i = let e : 0 + n ≡ n = omega arith in ap (λ (k : ℕ). times parents k i) e
times_sum parents (suc m) n i = let e : suc m + n ≡ suc (m + n) = omega arith in ap (λ (k : ℕ). times parents k i) e ∙ times_sum parents m n (step parents i)

-- nothing stands above itself
pub above_one : (parents : List ℕ) → AreAbove 1 parents parents
unfolding times
above_one parents = record { size = refl; each = λ i lt. refl }

pub above_inside : (n : ℕ) (parents far : List ℕ) → AreInside parents → AreAbove n parents far → AreInside far
above_inside n parents far inside above =
    λ i lt. let here : i < length parents = omega (arith, above.size) in
    omega (arith, above.each i here, times_inside parents n i inside here, above.size)

-- what stands twice as far
pub twice : (far farther : List ℕ) → length farther ≡ length far → ((i : ℕ) → i < length far → get_or farther i 0 ≡ get_or far (get_or far i 0) 0) → AreAbove 2 far farther
unfolding times
twice far farther size each = record { size = size; each = each }

two_steps : (far farther : List ℕ) → AreAbove 2 far farther → (i : ℕ) → i < length far → get_or farther i 0 ≡ get_or far (get_or far i 0) 0
unfolding times
two_steps far farther above i lt = above.each i lt

pub doubling : (n : ℕ) (parents far farther : List ℕ) → AreInside parents → AreAbove n parents far → AreAbove 2 far farther → AreAbove (n + n) parents farther
doubling n parents far farther inside near above = record {
  size = above.size ∙ near.size;
  each = λ i lt.
      let j = times parents n i in
      let first : get_or far i 0 ≡ j = near.each i lt in
      two_steps far farther above i (omega (arith, near.size)) ∙ ap (λ (k : ℕ). get_or far k 0) first ∙ near.each j (times_inside parents n i inside lt) ∙ sym (times_sum parents n n i);
}

pub next_power : (k : ℕ) → 2 ^ k + 2 ^ k ≡ 2 ^ (k + 1)
next_power k = let e : k + 1 ≡ suc k = omega arith in rw e (grind arith)
