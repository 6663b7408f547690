-- Numbers, and elements of comma lists.
use Rattle.std.proofs.Common.{◌≡◌, ◌<◌, ◌≤◌, ◌+◌, ℕ, List, [], ◌∷◌, zero, suc, add-one, length, take, drop, get_or, refl, ap, sym, ◌∙◌, arith, true, false, rules, inl, inr}
use Rattle.std.specs.Prelude.{Option, Some, Result, Ok, Err, IsUtf8, nat_lt, position}
use Rattle.std.specs.Result.{result_ok}
use Rattle.std.specs.List.{list_all, position_or_len}
use Rattle.std.proofs.lemmas.List.Sums.{fails_before_first}
use Rattle.std.proofs.Math.Bool.{or-false}
use Rattle.std.specs.Char.{is_ascii_digit}
use Rattle.std.specs.Str.Parse.{ParsesUnsigned, digits_value}
use Rattle.std.proofs.lemmas.Str.{IsUtf8-from_ascii, IsUtf8-from_is_utf8, is_utf8-from_IsUtf8}
use Rattle.std.proofs.lemmas.Fmt.{IsAscii-from_digits}
use Rattle.std.proofs.lemmas.Str.Parse.{IsNumeralModel, numerals_by_value, parse_digits}
use Rattle.std.proofs.lemmas.Bool.{cases_Bool, cases_lt, lt-ltb, ltb-true}
use Rattle.std.specs.Str.{is_utf8}
use Rattle.std.proofs.lemmas.List.Quantifiers.{position-Some}
use Rattle.cv_http.specs.Fields.{number_of, text_or_empty, is_comma, elements, is_token, has_token}

own : IsNumeralModel (λ ds. list_all is_ascii_digit ds ≡ true) (digits_value 10)
own = numerals_by_value (λ ds. list_all is_ascii_digit ds ≡ true) (search rules)

pub digits_are_utf8 : (text : List ℕ) → list_all is_ascii_digit text ≡ true → IsUtf8 text
digits_are_utf8 text digits = IsUtf8-from_ascii text (IsAscii-from_digits text (own.to text digits))

pub parsed : {E : Type 0} (text : List ℕ) (r : Result ℕ E) → ParsesUnsigned 64 10 text r → list_all is_ascii_digit text ≡ true
    → result_ok r ≡ number_of text
parsed {E} text (Ok x) parses digits =
    let is = parse_digits own {E = E} 64 text (Ok x) parses digits in
    let some : nat_lt 0 (length text) ≡ true = lt-ltb 0 (length text) is.0.0 in
    let small : nat_lt (digits_value 10 text) 18446744073709551616 ≡ true = lt-ltb (digits_value 10 text) 18446744073709551616 is.0.1 in
    rw (some, digits, small) (ap (λ n. Some n) is.1)
parsed {E} text (Err e) parses digits =
    let not = parse_digits own {E = E} 64 text (Err e) parses digits in
    elim (cases_Bool (nat_lt 0 (length text))) [
      | inr none ↦ rw none refl
      | inl some ↦ elim (cases_Bool (nat_lt (digits_value 10 text) 18446744073709551616)) [
        | inr large ↦ rw (some, digits, large) refl
        | inl small ↦ absurd (not (ltb-true 0 (length text) some, ltb-true (digits_value 10 text) 18446744073709551616 small))
      ]
    ]

pub text_kept : (value text : List ℕ) → text ≡ value → IsUtf8 value → text ≡ text_or_empty value
text_kept value text same utf8 = rw (is_utf8-from_IsUtf8 value utf8) same

pub text_dropped : (value : List ℕ) → (IsUtf8 value → ⊥) → [] ≡ text_or_empty value
text_dropped value other =
    elim (cases_Bool (is_utf8 value)) [ inl utf8 ↦ absurd (other (IsUtf8-from_is_utf8 value utf8)) | inr not ↦ rw not refl ]

-- the first comma
pub elements_found : (text : List ℕ) (at : ℕ) → at < length text → is_comma (get_or text at 0) ≡ true
    → ((k : ℕ) → k < at → is_comma (get_or text k 0) ≡ false) → elements text ≡ take at text ∷ elements (drop (suc at) text)
unfolding elements
elements_found [] at within here before = absurd (omega arith)
elements_found (byte ∷ more) zero within here before = rw here refl
elements_found (byte ∷ more) (suc at) within here before =
    let first : is_comma byte ≡ false = before 0 (omega arith) in
    let later : elements more ≡ take at more ∷ elements (drop (suc at) more) =
    elements_found more at (omega arith) here (λ k below. before (suc k) (omega arith)) in
    rw (first, later) refl

-- no comma
pub elements_none : (text : List ℕ) → ((k : ℕ) → k < length text → is_comma (get_or text k 0) ≡ false) → elements text ≡ text ∷ []
unfolding elements
elements_none [] none = refl
elements_none (byte ∷ more) none =
    let first : is_comma byte ≡ false = none 0 (omega arith) in
    let later : elements more ≡ more ∷ [] = elements_none more (λ k below. none (suc k) (omega arith)) in
    rw (first, later) refl

pub first_element : (text : List ℕ) (at : ℕ) → Some at ≡ position is_comma text
    → (at < length text) × (elements text ≡ take at text ∷ elements (drop (suc at) text))
first_element text at is =
    let found = position-Some is_comma text at 0 (sym is) in (found.0, elements_found text at found.0 found.1 found.2)

pub has_token_first : (token rest : List ℕ) (at : ℕ) → Some at ≡ position is_comma rest → is_token token (take at rest) ≡ true → true ≡ has_token token rest
has_token_first token rest at is here = let found = first_element rest at is in rw (found.1, here) refl

pub has_token_later : (token rest : List ℕ) (at : ℕ) → Some at ≡ position is_comma rest → is_token token (take at rest) ≡ false
    → has_token token rest ≡ has_token token (drop (at + 1) rest)
has_token_later token rest at is here = let found = first_element rest at is in rw (found.1, here, add-one) refl

pub has_token_last : (token rest : List ℕ) (found : Option ℕ) → found ≡ position is_comma rest → ((at : ℕ) → found ≡ Some at → ⊥)
    → is_token token rest ≡ has_token token rest
has_token_last token rest found is none =
    let past : length rest ≤ position_or_len is_comma rest = elim (cases_lt (position_or_len is_comma rest) (length rest)) [
      | inl below ↦ let test : nat_lt (position_or_len is_comma rest) (length rest) ≡ true = lt-ltb _ _ below in
          absurd (none (position_or_len is_comma rest) (is ∙ rw test refl))
      | inr above ↦ above
    ] in
    let one : elements rest ≡ rest ∷ [] = elements_none rest (λ k below. fails_before_first is_comma rest k 0 (omega (arith, past, below))) in
    rw one (sym (or-false (is_token token rest)))
