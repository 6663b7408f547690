-- Texts that are decimals.
use Rattle.std.proofs.Common.{◌≡◌, ◌≢◌, ℕ, zero, suc, ◌+◌, ◌*◌, ◌-◌, ◌<◌, ◌^◌, true, false, List, [], ◌∷◌, length, get_or, decimal, Result, Ok, Err, refl, sym, ap, subst, ◌∙◌, arith, rules, lit<, inl, inr}
use Rattle.std.specs.Prelude.{IfOk, IfSome, IsUtf8}
use Rattle.std.specs.Result.{result_ok}
use Rattle.std.specs.Str.{all_ascii_digits}
use Rattle.std.specs.Str.Parse.{ParsesUnsigned}
use Rattle.std.proofs.lemmas.Str.Parse.{IsNumeralModel, numerals_by_fold, parse_plain, not_in_digits}
use Rattle.std.proofs.lemmas.Fmt.{decimal-digits_value, decimal_digit, first_decimal, IsAscii-decimal, digits_decimal}
use Rattle.std.proofs.lemmas.Str.{IsUtf8-from_ascii}
use Rattle.cv_base.specs.DecimalInner.{MatchPlain}

-- the number that digits say behind others
abbrev read_on : ℕ → List ℕ → ℕ
read_on n [] = n
read_on n (c ∷ cs) = read_on (10 * n + (c - 48)) cs

numerals : IsNumeralModel (λ ds. all_ascii_digits ds ≡ true) (read_on 0)
numerals = numerals_by_fold _ (search rules) read_on (search rules)

-- what parses and has neither sign nor leading zero is the decimal of its value
pub decimal-parsed : {E : Type 0} (text : List ℕ) (r : Result ℕ E) → ParsesUnsigned 64 10 text r → get_or text 0 0 ≢ 43
    → (get_or text 0 0 ≡ 48 → length text ≡ 1) → IfOk r (λ n. text ≡ decimal n)
decimal-parsed {E} text (Ok n) h plain short =
    let k = parse_plain numerals {E = E} 64 text (Ok n) h plain in
    sym (ap decimal k.1 ∙ decimal-digits_value numerals text k.0.0 k.0.1 short k.0.2)
decimal-parsed text (Err e) h plain short = tt

-- a decimal begins with a digit, which is 0 only in that of 0
pub decimal-first : (n : ℕ) → n < 2 ^ 64 → (47 < get_or (decimal n) 0 0) × (get_or (decimal n) 0 0 ≡ 48 → length (decimal n) ≡ 1)
decimal-first zero h = rw (decimal_digit 0 (lit< tt)) (lit< tt, λ e. refl)
decimal-first (suc n) h = let high = first_decimal (suc n) (omega arith) h in (omega arith, λ e. absurd (omega arith))

-- a text with a sign or a leading zero is no decimal, and a decimal is UTF-8
pub plain-decimal : (text : List ℕ) (n : ℕ) → n < 2 ^ 64 → text ≡ decimal n → MatchPlain false text → ⊥
plain-decimal text n h is (inl sign) = let first = decimal-first n h in omega (arith, first.0, sign, ap (λ w. get_or w 0 0) is)
plain-decimal text n h is (inr zero_first) =
    let one : length text ≡ 1 = ap length is ∙ (decimal-first n h).1 (sym (ap (λ w. get_or w 0 0) is) ∙ zero_first.0) in
    omega (arith, one, zero_first.1)

pub IsUtf8-decimal : (text : List ℕ) (n : ℕ) → n < 2 ^ 64 → text ≡ decimal n → IsUtf8 text
IsUtf8-decimal text n h is = rw is (IsUtf8-from_ascii (decimal n) (IsAscii-decimal n h))

IfSome-result_ok : {A E : Type 0} (r : Result A E) (P : A → Type 0) → IfOk r P → IfSome (result_ok r) P
IfSome-result_ok (Ok x) P h = h
IfSome-result_ok (Err e) P h = tt

-- the number that was parsed, if any, has the text as its decimal
pub decimal-ok : {E : Type 0} (text digits : List ℕ) (r : Result ℕ E) → digits ≡ text → ParsesUnsigned 64 10 digits r → MatchPlain true text
    → IfSome (result_ok r) (λ n. text ≡ decimal n)
decimal-ok text digits r same h plain =
    IfSome-result_ok r (λ n. text ≡ decimal n) (decimal-parsed text r (let P : List ℕ → Type 0 = λ bs. ParsesUnsigned 64 10 bs r in subst P same h) plain.0 plain.1)

-- a decimal has no byte but digits
pub decimal-no_dash : (n : ℕ) → n < 2 ^ 64 → (i : ℕ) → i < length (decimal n) → get_or (decimal n) i 0 ≢ 45
decimal-no_dash n h = not_in_digits numerals (decimal n) 45 (digits_decimal numerals n h) (λ digit. omega (arith, digit.0))
