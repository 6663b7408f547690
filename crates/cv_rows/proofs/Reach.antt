-- A walk that comes to an index comes to it in as many steps as there are indices.
use Rattle.std.proofs.Common.{◌≡◌, ◌≢◌, ℕ, zero, suc, ◌+◌, ◌-◌, ◌<◌, ◌≤◌, true, false, eqb, List, [], ◌∷◌, length, get_or, refl, sym, ap, subst, ◌∙◌, arith, inl, inr}
use Rattle.std.specs.Prelude.{nat_eq}
use Rattle.std.specs.List.{AllByRecursion, IsDistinct, range_with_len}
use Rattle.std.specs.Set.{is_member}
use Rattle.std.proofs.lemmas.Bool.{eqb-true}
use Rattle.std.proofs.lemmas.Bool.Decides.{Decides-eqb}
use Rattle.std.proofs.lemmas.Cmp.{nat_eq_equiv}
use Rattle.std.proofs.lemmas.List.FromFn.{length-range_with_len, get_or-range_with_len}
use Rattle.std.proofs.lemmas.Map.Made.{is_member-Decides, length-le_from_is_member}
use Rattle.cv_base.proofs.Laws.{same_or_other}
use Rattle.cv_rows.specs.ParentsInner.{step, times, AreInside}
use Rattle.cv_rows.proofs.Steps.{times_sum}

-- the walk comes to the root first after so many steps
record IsFirstHit (parents : List ℕ) (root n i : ℕ) : Type 0 where
  here : times parents n i ≡ root
  before : (j : ℕ) → j < n → times parents j i ≢ root

hit_at_once : (parents : List ℕ) (root i : ℕ) → i ≡ root → IsFirstHit parents root 0 i
unfolding times
hit_at_once parents root i same = record { here = same; before = λ j lt. absurd (omega arith) }

hit_later : (parents : List ℕ) (root n i : ℕ) → i ≢ root → IsFirstHit parents root n (step parents i) → IsFirstHit parents root (suc n) i
unfolding times
hit_later parents root n i apart h = record { here = h.here; before = before }
  where
    before : (j : ℕ) → j < suc n → times parents j i ≢ root
    before zero lt = apart
    before (suc j) lt = h.before j (omega arith)

first_hit : (parents : List ℕ) (root n i : ℕ) → times parents n i ≡ root → (m : ℕ) × IsFirstHit parents root m i
unfolding times
first_hit parents root zero i h = (0, hit_at_once parents root i h)
first_hit parents root (suc n) i h =
    elim (same_or_other i root) [
      | inl same ↦ (0, hit_at_once parents root i same)
      | inr apart ↦ let later = first_hit parents root n (step parents i) h in (suc later.0, hit_later parents root later.0 i apart later.1)
    ]

-- after a first step the first hit comes one step sooner
hit_after : (parents : List ℕ) (root n i : ℕ) → IsFirstHit parents root (suc n) i → IsFirstHit parents root n (step parents i)
unfolding times
hit_after parents root n i h = record { here = h.here; before = λ j lt. h.before (suc j) (omega arith) }

-- the first so many places of the walk
orbit : List ℕ → ℕ → ℕ → List ℕ
orbit parents zero i = []
orbit parents (suc n) i = i ∷ orbit parents n (step parents i)

length-orbit : (parents : List ℕ) (n i : ℕ) → length (orbit parents n i) ≡ n
unfolding orbit
length-orbit parents zero i = refl
length-orbit parents (suc n) i = ap suc (length-orbit parents n (step parents i))

not_same : (i j : ℕ) → i ≢ j → eqb i j ≡ false
not_same i j apart = elim (eqb i j) as (λ t. eqb i j ≡ t → t ≡ false) [ true ↦ λ e. absurd (apart (eqb-true i j e)) | false ↦ λ e. refl ] refl

-- a place that the walk doesn't come to differs from each of its places
all_apart : (parents : List ℕ) (x n i : ℕ) → ((s : ℕ) → s < n → x ≢ times parents s i) → AllByRecursion (λ y. eqb x y ≡ false) (orbit parents n i)
unfolding orbit times
all_apart parents x zero i h = tt
all_apart parents x (suc n) i h = (not_same x i (h 0 (omega arith)), all_apart parents x n (step parents i) (λ s lt. h (suc s) (omega arith)))

-- before the first hit no place comes twice
never_again : (parents : List ℕ) (root n i : ℕ) → IsFirstHit parents root (suc n) i → (s : ℕ) → s < n → i ≢ times parents s (step parents i)
unfolding times
never_again parents root n i h s lt = λ again.
    let rest = suc n - suc s in
    let back : times parents rest i ≡ root =
    ap (λ (j : ℕ). times parents rest j) again ∙ sym (times_sum parents (suc s) rest i) ∙ (let e : suc s + rest ≡ suc n = omega arith in ap (λ (k : ℕ). times parents k i) e) ∙ h.here in
    h.before rest (omega arith) back

distinct : (parents : List ℕ) (root n i : ℕ) → IsFirstHit parents root n i → IsDistinct nat_eq (orbit parents n i)
unfolding IsDistinct orbit
distinct parents root zero i h = tt
distinct parents root (suc n) i h =
    (all_apart parents i n (step parents i) (never_again parents root n i h), distinct parents root n (step parents i) (hit_after parents root n i h))

orbit_below : (parents : List ℕ) (n i k d : ℕ) → AreInside parents → i < length parents → k < n → get_or (orbit parents n i) k d < length parents
unfolding orbit
orbit_below parents zero i k d inside lt below = absurd (omega arith)
orbit_below parents (suc n) i zero d inside lt below = lt
orbit_below parents (suc n) i (suc k) d inside lt below = orbit_below parents n (step parents i) k d inside (inside i lt) (omega arith)

-- the first hit comes within as many steps as there are indices
hit_soon : (parents : List ℕ) (root n i : ℕ) → AreInside parents → i < length parents → IsFirstHit parents root n i → n ≤ length parents
hit_soon parents root n i inside lt h =
    let places = orbit parents n i in
    let numbers = range_with_len 0 (length parents) in
    let inside_numbers : (q : ℕ) → is_member nat_eq places q ≡ true → is_member nat_eq numbers q ≡ true = λ q member.
    let has = (is_member-Decides Decides-eqb places q).0 member in
    let small : q < length parents = subst (λ (x : ℕ). x < length parents) has.2 (orbit_below parents n i has.0 q inside lt (omega (arith, has.1, length-orbit parents n i))) in
    (is_member-Decides Decides-eqb numbers q).1 (q, omega (arith, small, length-range_with_len 0 (length parents)), get_or-range_with_len 0 (length parents) q q small ∙ (let e : 0 + q ≡ q = omega arith in e)) in
    omega (arith, length-le_from_is_member nat_eq_equiv places numbers (distinct parents root n i h) inside_numbers, length-orbit parents n i, length-range_with_len 0 (length parents))

-- what leads nowhere leads nowhere
pub last_stays : (parents : List ℕ) (n k : ℕ) → step parents n ≡ n → times parents k n ≡ n
unfolding times
last_stays parents n zero fixed = refl
last_stays parents n (suc k) fixed = ap (λ (j : ℕ). times parents k j) fixed ∙ last_stays parents n k fixed

-- a walk that comes to the root is there after so many steps
pub hit_by : (parents : List ℕ) (root k i n : ℕ) → AreInside parents → step parents root ≡ root → i < length parents → times parents k i ≡ root → length parents ≤ n → times parents n i ≡ root
hit_by parents root k i n inside fixed lt h enough =
    let first = first_hit parents root k i h in
    let soon = hit_soon parents root first.0 i inside lt first.1 in
    let rest = n - first.0 in
    let e : n ≡ first.0 + rest = omega arith in
    ap (λ (m : ℕ). times parents m i) e ∙ times_sum parents first.0 rest i ∙ ap (λ (j : ℕ). times parents rest j) first.1.here ∙ last_stays parents root rest fixed
