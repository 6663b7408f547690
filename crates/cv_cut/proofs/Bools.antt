-- Tests, and what they tell.
use Rattle.std.proofs.Common.{◌≡◌, Bool, true, false, not, refl}
use Rattle.std.specs.Prelude.{T}

pub so : (b : Bool) → T b → b ≡ true
so true h = refl
so false h = absurd h

pub false_not : (b : Bool) → (b ≡ true → ⊥) → not b ≡ true
false_not true h = absurd (h refl)
false_not false h = refl
