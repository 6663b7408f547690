-- Lists that are split at known lengths.
use Rattle.std.proofs.Common.{◌≡◌, ◌++◌, ℕ, List, length, take, drop, sym, ap, ◌∙◌}
use Rattle.std.proofs.lemmas.List.{take_at, drop_at}

-- where the fronts have one length, equal lists have equal fronts and equal rests
pub same_parts : {X : Type 0} (n : ℕ) (a b x y : List X) → length a ≡ n → length b ≡ n → a ++ x ≡ b ++ y → (a ≡ b) × (x ≡ y)
same_parts n a b x y a-size b-size e = (
  sym (take_at a x n a-size) ∙ ap (take n) e ∙ take_at b y n b-size,
  sym (drop_at a x n a-size) ∙ ap (drop n) e ∙ drop_at b y n b-size,
)
