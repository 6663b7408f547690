-- What a text spells is read back, and nothing but what it spells is read.
use Rattle.std.proofs.Common.{◌≡◌, ◌≢◌, ℕ, zero, suc, ◌<◌, ◌^◌, ◌==◌, true, false, not, cond, ◌&&◌, List, [], ◌∷◌, ◌++◌, length, get_or, drop, decimal, nat_lt, Option, Some, None, Result, Ok, Err, inl, inr, refl, sym, ap, subst, ◌∙◌, arith, length-append}
use Rattle.std.specs.Prelude.{option_and_then}
use Rattle.std.specs.List.{before_first, after_first, position_or_len}
use Rattle.std.specs.Result.{result_ok}
use Rattle.std.specs.Str.{bytes_eq}
use Rattle.std.specs.Str.Parse.{digits_value}
use Rattle.std.proofs.lemmas.Bool.{and_parts, cases_lt, eqb-true, lt-ltb, ltb-true, not-false}
use Rattle.std.proofs.lemmas.Fmt.{decimal_is_IsNumeral, decimal_nonempty}
use Rattle.std.proofs.lemmas.List.{take_at, drop_at, drop_more}
use Rattle.std.proofs.lemmas.List.Sums.{prefix_len_stops, split_at_first}
use Rattle.std.proofs.lemmas.Option.{cond_some}
use Rattle.std.proofs.lemmas.Slice.Eq.{bytes_eq-Decides}
use Rattle.std.proofs.Math.ListN.{drop_of_length-le}
use Rattle.hex.specs.Hex.{encode_lower, decode_sized}
use Rattle.hex.specs.declared.error.FromHexError.{FromHexError}
use Rattle.hex.proofs.HexLemmas.{decode_of-ok, decode_sized-ok, decode_sized-twice, decode_sized-encode_lower}
use Rattle.cv_base.specs.Digest.{IsDigest}
use Rattle.cv_base.specs.Token.{token_text}
use Rattle.cv_base.specs.declared.token.Token.{Token}
use Rattle.cv_base.proofs.Laws.{decimal-no_dash, bytes_eq-own}
use Rattle.cv_messages.specs.Spelling.{IsToken, decimal_of, is_dash, token_by, token_of, digest_of}

-- an option that is no value is none
none : {A : Type 0} (read : Option A) → ((x : A) → read ≡ Some x → ⊥) → read ≡ None
none None never = refl
none (Some x) never = absurd (never x refl)

pub decimal_of-decimal : (n : ℕ) → n < 2 ^ 64 → decimal_of (decimal n) ≡ Some n
decimal_of-decimal n small =
    let value : digits_value 10 (decimal n) ≡ n = (decimal_is_IsNumeral n small).1 in
    rw (value, lt-ltb n (2 ^ 64) small, bytes_eq-own (decimal n)) refl

decimal_of-Some : (text : List ℕ) (n : ℕ) → decimal_of text ≡ Some n → (n < 2 ^ 64) × (text ≡ decimal n)
decimal_of-Some text n h =
    let v : ℕ = digits_value 10 text in
    let k = cond_some (nat_lt v (2 ^ 64) && bytes_eq (decimal v) text) v n h in
    let p = and_parts _ _ k.0 in
    let small : v < 2 ^ 64 = ltb-true v (2 ^ 64) p.0 in
    let same : decimal v ≡ text = (bytes_eq-Decides (decimal v) text).0 p.1 in
    (omega (arith, small, k.1), sym same ∙ ap decimal k.1)

-- the first dash is behind what has none
first_dash : (xs ys : List ℕ) → ((i : ℕ) → i < length xs → get_or xs i 0 ≢ 45) → position_or_len is_dash (xs ++ 45 ∷ ys) ≡ length xs
first_dash [] ys free = refl
first_dash (x ∷ xs) ys free =
    let later = first_dash xs ys (λ i below. free (suc i) (omega arith)) in
    let here : (x == 45) ≡ false = elim (x == 45) as (λ t. x == 45 ≡ t → t ≡ false) [
      | true ↦ λ e. absurd (free zero (omega arith) (eqb-true x 45 e))
      | false ↦ λ e. refl
    ] refl in
    rw (here, later) (omega arith)

before_dash : (xs ys : List ℕ) → ((i : ℕ) → i < length xs → get_or xs i 0 ≢ 45) → before_first is_dash (xs ++ 45 ∷ ys) ≡ xs
before_dash xs ys free = rw (first_dash xs ys free) (take_at xs (45 ∷ ys) (length xs) refl)

after_dash : (xs ys : List ℕ) → ((i : ℕ) → i < length xs → get_or xs i 0 ≢ 45) → after_first is_dash (xs ++ 45 ∷ ys) ≡ ys
after_dash xs ys free =
    let whole : List ℕ = xs ++ 45 ∷ ys in
    let dropped : drop (length xs) whole ≡ 45 ∷ ys = drop_at xs (45 ∷ ys) (length xs) refl in
    let next = drop_more whole (length xs) 0 (omega (arith, length-append xs (45 ∷ ys))) in
    rw (first_dash xs ys free) (ap (λ l. drop 1 l) (sym next ∙ dropped))

-- what was written of a token says it
pub token_of-token_text : (token : Token) → IsToken token → token_of (token_text token) ≡ Some token
token_of-token_text token is =
    let free = decimal-no_dash token.epoch is.epoch in
    rw (before_dash (decimal token.epoch) (decimal token.number) free, after_dash (decimal token.epoch) (decimal token.number) free, decimal_of-decimal token.epoch is.epoch, decimal_of-decimal token.number is.number) refl

token_by-Some : (epoch number : Option ℕ) (token : Token) → token_by epoch number ≡ Some token → (epoch ≡ Some token.epoch) × (number ≡ Some token.number)
token_by-Some None number token h = cc
token_by-Some (Some epoch) None token h = cc
token_by-Some (Some epoch) (Some number) token h =
    let same : record { epoch = epoch; number = number } ≡ token = cc in
    (ap (λ (t : Token). Some t.epoch) same, ap (λ (t : Token). Some t.number) same)

-- and a text says no token but that
token_of-Some : (text : List ℕ) (token : Token) → token_of text ≡ Some token → IsToken token × (text ≡ token_text token)
token_of-Some text token h =
    let parts = token_by-Some (decimal_of (before_first is_dash text)) (decimal_of (after_first is_dash text)) token h in
    let front = decimal_of-Some (before_first is_dash text) token.epoch parts.0 in
    let back = decimal_of-Some (after_first is_dash text) token.number parts.1 in
    let some = decimal_nonempty token.number back.0 in
    let at : ℕ = position_or_len is_dash text in
    let within : at < length text = elim (cases_lt at (length text)) [
      | inl below ↦ below
      | inr above ↦
          let none : after_first is_dash text ≡ [] = drop_of_length-le text (omega arith) in
          absurd (omega (arith, some, ap length (sym none ∙ back.1)))
    ] in
    let dash : get_or text at 0 ≡ 45 = eqb-true (get_or text at 0) 45 (not-false (is_dash (get_or text at 0)) (prefix_len_stops (λ b. not (is_dash b)) text 0 within)) in (
      record { epoch = front.0; number = back.0 },
      split_at_first is_dash text 0 within ∙ rw (dash, ← front.1, ← back.1) refl,
    )

-- a text that is no token's says none
pub token_of-None : (text : List ℕ) → ((token : Token) → IsToken token → text ≡ token_text token → ⊥) → token_of text ≡ None
token_of-None text never = none (token_of text) (λ token is. let known = token_of-Some text token is in never token known.0 known.1)

-- what was written of a digest says it
pub digest_of-encode_lower : (hash : List ℕ) → IsDigest hash → digest_of (encode_lower hash) ≡ Some hash
digest_of-encode_lower hash is = rw (decode_sized-encode_lower hash 20 is.size is.bytes, bytes_eq-own (encode_lower hash)) refl

-- and a text says no digest but that
pub digest_of-Some : (text hash : List ℕ) → digest_of text ≡ Some hash → IsDigest hash × (text ≡ encode_lower hash)
digest_of-Some text hash h = by (decode_sized text 20) refl h
  where
    by : (r : Result (List ℕ) FromHexError) → decode_sized text 20 ≡ r
        → option_and_then (λ hash. cond (bytes_eq (encode_lower hash) text) (Some hash) None) (result_ok r) ≡ Some hash
        → IsDigest hash × (text ≡ encode_lower hash)
    by (Ok bytes) e h =
        let k = cond_some (bytes_eq (encode_lower bytes) text) bytes hash h in
        let same : encode_lower bytes ≡ text = (bytes_eq-Decides (encode_lower bytes) text).0 k.0 in
        let size = decode_sized-ok text 20 bytes e in
        let decoded = decode_of-ok text bytes (sym (decode_sized-twice text 20 size) ∙ e) in
        let is : IsDigest bytes = record { size = omega (arith, size, decoded.2); bytes = decoded.3 } in
        let P : List ℕ → Type 0 = λ b. IsDigest b × (text ≡ encode_lower b) in
        subst P k.1 (is, sym same)
    by (Err error) e h = cc

-- a text that is no digest's says none
pub digest_of-None : (text : List ℕ) → ((hash : List ℕ) → IsDigest hash → text ≡ encode_lower hash → ⊥) → digest_of text ≡ None
digest_of-None text never = none (digest_of text) (λ hash is. let known = digest_of-Some text hash is in never hash known.0 known.1)
