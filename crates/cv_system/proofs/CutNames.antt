-- Where the names of a folder are cut.
use Rattle.std.proofs.Common.{◌≡◌, ◌==◌, ℕ, ◌+◌, ◌-◌, ◌≤◌, cond, nat_lt, List, [], ◌∷◌, length, take, drop, Option, Some, None, ap, sym, subst, ◌∙◌, arith, length-drop}
use Rattle.std.specs.List.{position, position_or_len}
use Rattle.std.proofs.lemmas.Bool.Decides.{nat_tests}
use Rattle.std.proofs.lemmas.List.{take_all}
use Rattle.std.proofs.lemmas.List.Quantifiers.{position-Some}
use Rattle.std.proofs.lemmas.List.Splits.{slice_split_first, slice_split_none}
use Rattle.std.proofs.lemmas.List.Sums.{fails_before_first, position_or_len_is}
use Rattle.cv_system.specs.Names.{names_in}

not_below : (m n : ℕ) → ◌≡◌ {A = Option ℕ} (cond (nat_lt m n) (Some m) None) None → n ≤ m
not_below m n h = grind (arith, nat_tests)

-- without a NUL there is one name
pub one_name : (names : List ℕ) → position (λ b. b == 0) names ≡ None → names_in names ≡ names ∷ []
one_name names none =
    let none_before = not_below (position_or_len (λ b. b == 0) names) (length names) none in
    slice_split_none (λ b. b == 0) names (λ k d h. fails_before_first (λ b. b == 0) names k d (omega arith))

-- the first name ends at the first NUL
pub first_name : (names : List ℕ) (end : ℕ) → position (λ b. b == 0) names ≡ Some end
    → names_in names ≡ take end names ∷ names_in (take (length names - (end + 1)) (drop (end + 1) names))
first_name names end is =
    let found = position-Some (λ b. b == 0) names end 0 is in
    let at : position_or_len (λ b. b == 0) names ≡ end = position_or_len_is (λ b. b == 0) names end 0 (omega (arith, found.0)) (λ k h. found.2 k h) (λ _. found.1) in
    let cut = slice_split_first (λ b. b == 0) names 0 (omega (arith, at, found.0)) in
    subst (λ n. names_in names ≡ take n names ∷ names_in (drop (n + 1) names)) at cut
    ∙ ap (λ others. take end names ∷ names_in others) (sym (take_all (length names - (end + 1)) (drop (end + 1) names) (omega (arith, length-drop (end + 1) names))))
