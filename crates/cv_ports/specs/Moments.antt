-- The moments that a clock will give.
use Rattle.std.specs.Prelude.{ℕ, ◌+◌, ◌-◌, List, [], ◌∷◌, Option, Some, None, length, min, slice_index}

-- the moments after the first, where they are told
abbrev pub advanced : Option (ℕ → ℕ) → Option (ℕ → ℕ)
advanced None = None
advanced (Some moment) = Some (λ n. moment (n + 1))

-- the n-th of these moments, of which the last repeats
abbrev pub moment_of : List ℕ → ℕ → ℕ
moment_of moments n = slice_index moments (min n (length moments - 1))

-- these moments after the first, of which the last repeats
abbrev pub later_moments : List ℕ → List ℕ
later_moments [] = []
later_moments (last ∷ []) = last ∷ []
later_moments (first ∷ next ∷ more) = next ∷ more
