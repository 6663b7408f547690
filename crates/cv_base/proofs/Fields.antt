-- Fields at the front of bytes.
use Rattle.std.proofs.Common.{◌≡◌, ℕ, zero, suc, ◌+◌, ◌<◌, List, [], ◌∷◌, ◌++◌, length, take, drop, get_or, sym, ap, arith, length-take}
use Rattle.std.proofs.lemmas.List.{take-append-drop}
use Rattle.std.proofs.lemmas.Grind.{common_steps}

small_front : (k : ℕ) (bytes : List ℕ) → ((i : ℕ) → get_or bytes i 0 < 256) → (i : ℕ) → get_or (take k bytes) i 0 < 256
small_front zero bytes h i = grind (arith, common_steps)
small_front (suc k) [] h i = h i
small_front (suc k) (b ∷ bytes) h zero = h zero
small_front (suc k) (b ∷ bytes) h (suc i) = small_front k bytes (λ j. h (suc j)) i

-- bytes that are split behind the field at their front
pub record IsField (k : ℕ) (bytes field rest : List ℕ) : Type 0 where
  pub front : field ≡ take k bytes
  pub back : rest ≡ drop k bytes
  pub size : length rest + k ≡ length bytes

-- the field has its length, and is bytes
pub length-IsField : (k : ℕ) (bytes field rest : List ℕ) → IsField k bytes field rest → length field ≡ k
length-IsField k bytes field rest h = omega (arith, ap length h.front, length-take k bytes, h.size)

pub small-IsField : (k : ℕ) (bytes field rest : List ℕ) → IsField k bytes field rest → ((i : ℕ) → get_or bytes i 0 < 256) → (i : ℕ) → get_or field i 0 < 256
small-IsField k bytes field rest h small i = rw h.front (small_front k bytes small i)

-- what spells the field spells the bytes with the rest
pub append-IsField : (k : ℕ) (bytes field rest spelt : List ℕ) → IsField k bytes field rest → spelt ≡ field → bytes ≡ spelt ++ rest
append-IsField k bytes field rest spelt h same = rw (same, h.front, h.back) (sym (take-append-drop k bytes))
