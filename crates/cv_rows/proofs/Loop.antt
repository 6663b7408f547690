-- Reading one after another, as a loop does.
use Rattle.std.proofs.Common.{◌≡◌, ℕ, suc, ◌-◌, ◌+◌, ◌≤◌, ◌<◌, List, [], ◌∷◌, ◌++◌, Result, Ok, Err, refl, sym, ap, ◌∙◌, append_assoc, arith, inl, inr}
use Rattle.std.proofs.lemmas.List.{append-nil}
use Rattle.cv_base.specs.Sequence.{◌>>=◌}
use Rattle.cv_base.specs.Unless.{IsUnless}
use Rattle.cv_rows.specs.declared.row_fault.RowFault.{RowFault}
use Rattle.cv_rows.specs.declared.row_fault.RowFault.TheVariants.{NoMemory}
use Rattle.cv_rows.specs.Reading.{many_at}

-- what was read before, and what is still read
abbrev pub with_front : {A : Type 0} → List A → Result (List A × List ℕ) RowFault → Result (List A × List ℕ) RowFault
with_front front read = read >>= λ x. Ok (front ++ x.0, x.1)

regroup : {A : Type 0} (front : List A) (x : A) (read : Result (List A × List ℕ) RowFault) → with_front front (read >>= λ o. Ok (x ∷ o.0, o.1)) ≡ with_front (front ++ x ∷ []) read
regroup {A} front x (Ok o) = ap (λ (xs : List A). Ok (xs, o.1)) (simp append_assoc)
regroup front x (Err f) = refl

-- one more was read
pub goes_on : {A : Type 0} (one : List ℕ → Result (A × List ℕ) RowFault) (front : List A) (count i : ℕ) (text : List ℕ) (x : A) (after : List ℕ) (total : Result (List A × List ℕ) RowFault) → i < count → Ok (x, after) ≡ one text
    → with_front front (many_at one (count - i) text) ≡ total → with_front (front ++ x ∷ []) (many_at one (count - (i + 1)) after) ≡ total
unfolding many_at
goes_on one front count i text x after total lt h so_far =
    let k : count - i ≡ suc (count - (i + 1)) = omega arith in
    let step : with_front front (many_at one (count - i) text) ≡ with_front (front ++ x ∷ []) (many_at one (count - (i + 1)) after) = rw (k, sym h) (regroup front x (many_at one (count - (i + 1)) after)) in
    sym step ∙ so_far

fault_ends : {A : Type 0} (one : List ℕ → Result (A × List ℕ) RowFault) (f : RowFault) (front : List A) (count i : ℕ) (text : List ℕ) (total : Result (List A × List ℕ) RowFault) → i < count → Err f ≡ one text
    → with_front front (many_at one (count - i) text) ≡ total → Err f ≡ total
unfolding many_at
fault_ends one f front count i text total lt h so_far =
    let k : count - i ≡ suc (count - (i + 1)) = omega arith in
    let step : with_front front (many_at one (count - i) text) ≡ Err f = rw (k, sym h) refl in
    sym step ∙ so_far

-- the next could not be read
pub ends : {A : Type 0} (one : List ℕ → Result (A × List ℕ) RowFault) (f : RowFault) (front : List A) (count i : ℕ) (text : List ℕ) (total : Result (List A × List ℕ) RowFault) → i < count
    → IsUnless {A = A × List ℕ} NoMemory (Err f) (one text) → with_front front (many_at one (count - i) text) ≡ total → IsUnless {A = List A × List ℕ} NoMemory (Err f) total
ends one f front count i text total lt (inl lack) so_far = inl lack
ends one f front count i text total lt (inr fails) so_far = inr (fault_ends one f front count i text total lt fails so_far)

-- all were read
pub is_done : {A : Type 0} (one : List ℕ → Result (A × List ℕ) RowFault) (front : List A) (count i : ℕ) (text : List ℕ) (total : Result (List A × List ℕ) RowFault) → count ≤ i → with_front front (many_at one (count - i) text) ≡ total → Ok (front, text) ≡ total
unfolding many_at
is_done {A} one front count i text total le so_far =
    let k : count - i ≡ 0 = omega arith in
    let step : with_front front (many_at one (count - i) text) ≡ Ok (front, text) = rw k (ap (λ (xs : List A). Ok (xs, text)) (append-nil front)) in
    sym step ∙ so_far
