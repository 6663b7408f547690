-- A text is cut at the first byte of a kind in one way.
use Rattle.std.proofs.Common.{◌≡◌, ◌≢◌, ℕ, zero, suc, ◌<◌, ◌^◌, true, List, [], ◌∷◌, ◌++◌, length, get_or, decimal, refl, sym, ap, ◌∙◌, arith, rules, length-append}
use Rattle.std.specs.Str.{all_ascii_digits}
use Rattle.std.specs.Str.Iter.{LacksByte}
use Rattle.std.specs.Str.Parse.{digits_value}
use Rattle.std.proofs.lemmas.Fmt.{digits_decimal}
use Rattle.std.proofs.lemmas.Str.Parse.{IsNumeralModel, numerals_by_value, not_in_digits}
use Rattle.std.proofs.Math.Seq.{get_or-append_seam}

-- the byte stands where the text is cut
pub not_cut : (c : ℕ) (text front back : List ℕ) → LacksByte c text → text ≢ front ++ c ∷ back
not_cut c text front back lacks is =
    lacks (length front) (omega (arith, ap (λ (x : List ℕ). length x) is, length-append front (c ∷ back)))
    (ap (λ (x : List ℕ). get_or x (length front) 0) is ∙ get_or-append_seam front c back 0)

lacks_rest : (c x : ℕ) (xs : List ℕ) → LacksByte c (x ∷ xs) → LacksByte c xs
lacks_rest c x xs lacks i below = lacks (suc i) (omega arith)

pub cut_once : (c : ℕ) (xs ys more more' : List ℕ) → LacksByte c xs → LacksByte c ys → xs ++ c ∷ more ≡ ys ++ c ∷ more' → (xs ≡ ys) × (more ≡ more')
cut_once c [] [] more more' left right is = (refl, cc)
cut_once c [] (y ∷ ys) more more' left right is = let head : c ≡ y = cc in absurd (right zero (omega arith) (sym head))
cut_once c (x ∷ xs) [] more more' left right is = let head : x ≡ c = cc in absurd (left zero (omega arith) head)
cut_once c (x ∷ xs) (y ∷ ys) more more' left right is =
    let head : x ≡ y = cc in
    let rest : xs ++ c ∷ more ≡ ys ++ c ∷ more' = cc in
    let same = cut_once c xs ys more more' (lacks_rest c x xs left) (lacks_rest c y ys right) rest in
    (cc, same.1)

pub lacks_append : (c : ℕ) (xs ys : List ℕ) → LacksByte c xs → LacksByte c ys → LacksByte c (xs ++ ys)
lacks_append c [] ys left right i below = right i below
lacks_append c (x ∷ xs) ys left right zero below = left zero (omega arith)
lacks_append c (x ∷ xs) ys left right (suc i) below = lacks_append c xs ys (lacks_rest c x xs left) right i (omega arith)

numerals : IsNumeralModel (λ ds. all_ascii_digits ds ≡ true) (digits_value 10)
numerals = numerals_by_value _ (search rules)

-- a decimal has digits alone
pub decimal_lacks : (c n : ℕ) → c < 48 → n < 2 ^ 64 → LacksByte c (decimal n)
decimal_lacks c n below small = not_in_digits numerals (decimal n) c (digits_decimal numerals n small) (λ digit. omega (arith, digit.0))
