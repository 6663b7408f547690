-- Bytes are the same where no bit of them differs.
use Rattle.std.proofs.Common.{◌≡◌, ℕ, zero, suc, ◌&&◌, ◌==◌, ◌+◌, ◌≤◌, List, length, drop, slice_index_or, bit_or, sym, subst, ◌∙◌, ◌<◌, arith, inl, inr}
use Rattle.std.specs.Int.Bits.{bit_xor, xor_self, xor_add_and}
use Rattle.std.specs.Str.{bytes_eq}
use Rattle.std.proofs.lemmas.Bool.{eq-eqb, ne_eqb, cases_eq, and_left}
use Rattle.std.proofs.lemmas.Nat.{and_le_l, and_le_r, le_or_l}
use Rattle.std.proofs.lemmas.List.{drop_more, drop_all}
use Rattle.std.proofs.Math.Bool.{and_assoc, and-true}

same_if_none : (a b : ℕ) → bit_xor a b ≡ 0 → a ≡ b
same_if_none a b none = omega (arith, xor_add_and a b, and_le_l a b, and_le_r a b, none)

one_pair : (a b : ℕ) → (bit_xor a b == 0) ≡ (a == b)
one_pair a b = elim (cases_eq a b) [
  | inl same ↦ eq-eqb (bit_xor a b) 0 (subst (λ (x : ℕ). bit_xor a x ≡ 0) same (xor_self a)) ∙ sym (eq-eqb a b same)
  | inr other ↦ ne_eqb (bit_xor a b) 0 (λ none. other (same_if_none a b none)) ∙ sym (ne_eqb a b other)
]

some_stays : (n x : ℕ) → bit_or (suc n) x ≡ 0 → ⊥
some_stays n x none = omega (arith, le_or_l (suc n) x, none)

pub none_differs : (found a b : ℕ) → (bit_or found (bit_xor a b) == 0) ≡ ((found == 0) && (a == b))
none_differs zero a b = one_pair a b
none_differs (suc n) a b =
    ne_eqb (bit_or (suc n) (bit_xor a b)) 0 (some_stays n (bit_xor a b))
    ∙ sym (and_left (suc n == 0) (a == b) (ne_eqb (suc n) 0 (λ none. omega (arith, none))))

-- one place further
pub next_place : (found place : ℕ) (one other : List ℕ) → place < length one → place < length other →
    ((found == 0) && bytes_eq (drop place one) (drop place other))
    ≡ ((bit_or found (bit_xor (slice_index_or one place 0) (slice_index_or other place 0)) == 0)
    && bytes_eq (drop (place + 1) one) (drop (place + 1) other))
next_place found place one other in_one in_other =
    rw (drop_more one place 0 in_one, drop_more other place 0 in_other, none_differs found (slice_index_or one place 0) (slice_index_or other place 0))
    (sym (and_assoc (found == 0) (slice_index_or one place 0 == slice_index_or other place 0) (bytes_eq (drop (place + 1) one) (drop (place + 1) other))))

-- past the last place
pub last_place : (found place : ℕ) (one other : List ℕ) → length one ≤ place → length other ≤ place →
    ((found == 0) && bytes_eq (drop place one) (drop place other)) ≡ (found == 0)
last_place found place one other past_one past_other =
    rw (drop_all place one past_one, drop_all place other past_other) (and-true (found == 0))
