-- Hashes as digits, written and read.
use Rattle.std.proofs.Common.{◌≡◌, ℕ, zero, suc, ◌+◌, ◌-◌, ◌*◌, ◌/◌, ◌%◌, ◌<◌, ◌≤◌, true, false, cond, ◌&&◌, ltb, leb, List, [], ◌∷◌, ◌++◌, length, slice_index, Result, Ok, Err, Option, Some, None, refl, sym, ap, subst, ◌∙◌, inl, inr, arith, append_assoc, add-zero}
use Rattle.std.proofs.lemmas.Bool.{lt-ltb, le-ltb, leb-true, le-leb, lt-leb, cases_Bool}
use Rattle.std.proofs.lemmas.List.{append-nil}
use Rattle.std.specs.List.{list_all}
use Rattle.std.specs.Char.{is_ascii_digit}
use Rattle.hex.specs.Hex.{IsBytes, encode_lower, encode_with, lower_digits, hex_digit_value, digit_or_error, value_at, pair_value, decode_pairs, decode_sized, ◌>>=◌ as ◌>=>◌}
use Rattle.hex.specs.declared.error.FromHexError.{FromHexError}
use Rattle.hex.proofs.HexLemmas.{decode_pairs-ok, decode_sized-ok, decode_sized-twice, decode_of-even}
use Rattle.cv_base.specs.Digest.{IsDigest}
use Rattle.cv_base.proofs.Laws.{ok_is}
use Rattle.cv_pack.specs.declared.pack_fault.PackFault.TheVariants.{BadHeader}
use Rattle.cv_pack.specs.Reading.{is_hash_digit, digits_at}
use Rattle.cv_pack.proofs.Numbers.{chosen, digit_range, some_is}

-- the digit of a value, which is one of a hash
digit_at : (v : ℕ) → v < 16 → (slice_index lower_digits v ≡ cond (ltb v 10) (48 + v) (87 + v)) × (is_hash_digit (slice_index lower_digits v) ≡ true)
digit_at zero h = (refl, refl)
digit_at (suc zero) h = (refl, refl)
digit_at (suc (suc zero)) h = (refl, refl)
digit_at (suc (suc (suc zero))) h = (refl, refl)
digit_at (suc (suc (suc (suc zero)))) h = (refl, refl)
digit_at (suc (suc (suc (suc (suc zero))))) h = (refl, refl)
digit_at (suc (suc (suc (suc (suc (suc zero)))))) h = (refl, refl)
digit_at (suc (suc (suc (suc (suc (suc (suc zero))))))) h = (refl, refl)
digit_at (suc (suc (suc (suc (suc (suc (suc (suc zero)))))))) h = (refl, refl)
digit_at (suc (suc (suc (suc (suc (suc (suc (suc (suc zero))))))))) h = (refl, refl)
digit_at (suc (suc (suc (suc (suc (suc (suc (suc (suc (suc zero)))))))))) h = (refl, refl)
digit_at (suc (suc (suc (suc (suc (suc (suc (suc (suc (suc (suc zero))))))))))) h = (refl, refl)
digit_at (suc (suc (suc (suc (suc (suc (suc (suc (suc (suc (suc (suc zero)))))))))))) h = (refl, refl)
digit_at (suc (suc (suc (suc (suc (suc (suc (suc (suc (suc (suc (suc (suc zero))))))))))))) h = (refl, refl)
digit_at (suc (suc (suc (suc (suc (suc (suc (suc (suc (suc (suc (suc (suc (suc zero)))))))))))))) h = (refl, refl)
digit_at (suc (suc (suc (suc (suc (suc (suc (suc (suc (suc (suc (suc (suc (suc (suc zero))))))))))))))) h = (refl, refl)
digit_at (suc (suc (suc (suc (suc (suc (suc (suc (suc (suc (suc (suc (suc (suc (suc (suc v)))))))))))))))) h = absurd (omega arith)

-- the value of a digit, and back
letter_range : (c : ℕ) → (leb 97 c && leb c 102) ≡ true → (97 ≤ c) × (c ≤ 102)
letter_range c e = elim (cases_Bool (leb 97 c)) [
  | inl low ↦
      let high : leb c 102 ≡ true = rw low at e in
      (leb-true _ _ low, leb-true _ _ high)
  | inr not_low ↦ let wrong : false ≡ true = rw not_low at e in absurd cc
]

digit_back : (c v : ℕ) → is_hash_digit c ≡ true → hex_digit_value c ≡ Some v → (v < 16) × (slice_index lower_digits v ≡ c)
digit_back c v is value = elim (cases_Bool (is_ascii_digit c)) [
  | inl digit ↦
      let range = digit_range c digit in
      let a : leb 65 c ≡ false = lt-leb _ _ (omega arith) in
      let b : leb 97 c ≡ false = lt-leb _ _ (omega arith) in
      let low : leb 48 c ≡ true = le-leb _ _ range.0 in
      let high : leb c 57 ≡ true = le-leb _ _ range.1 in
      let computed : hex_digit_value c ≡ Some (c - 48) = rw (a, b, low, high) refl in
      let v-is : c - 48 ≡ v = some_is _ _ (sym computed ∙ value) in
      let small : ltb v 10 ≡ true = lt-ltb _ _ (omega arith) in
      let back : 48 + v ≡ c = omega arith in
      (omega arith, (digit_at v (omega arith)).0 ∙ rw small back)
  | inr letter ↦
      let rest : (leb 97 c && leb c 102) ≡ true = rw letter at is in
      let range = letter_range c rest in
      let a : leb 65 c ≡ true = le-leb _ _ (omega arith) in
      let b : leb c 70 ≡ false = lt-leb _ _ (omega arith) in
      let computed : hex_digit_value c ≡ Some (c - 87) = rw (a, b, rest) refl in
      let v-is : c - 87 ≡ v = some_is _ _ (sym computed ∙ value) in
      let large : ltb v 10 ≡ false = le-ltb _ _ (omega arith) in
      let back : 87 + v ≡ c = omega arith in
      (omega arith, (digit_at v (omega arith)).0 ∙ rw large back)
]

hex_bind : {A B : Type 0} (r : Result A FromHexError) (f : A → Result B FromHexError) (y : B) → (r >=> f) ≡ Ok y → (x : A) × (r ≡ Ok x) × (f x ≡ Ok y)
hex_bind (Ok x) f y e = (x, refl, e)
hex_bind (Err d) f y e = absurd cc

value_is : (c i : ℕ) (o : Option ℕ) (v : ℕ) → digit_or_error c i o ≡ Ok v → o ≡ Some v
value_is c i (Some w) v e = let h : w ≡ v = cc in ap (λ (x : ℕ). Some x) h
value_is c i None v e = absurd cc

abbrev decoded : {A : Type 0} → A → Result A FromHexError
decoded x = Ok x

decoded_is : {A : Type 0} (x y : A) → decoded x ≡ decoded y → x ≡ y
decoded_is x y e = cc

all_cons : (c : ℕ) (rest : List ℕ) → list_all is_hash_digit (c ∷ rest) ≡ true → (is_hash_digit c ≡ true) × (list_all is_hash_digit rest ≡ true)
all_cons c rest e = elim (cases_Bool (is_hash_digit c)) [
  | inl is ↦ (is, rw is at e)
  | inr isnt ↦ let wrong : false ≡ true = rw isnt at e in absurd cc
]

all_grown : (c : ℕ) (rest : List ℕ) → is_hash_digit c ≡ true → list_all is_hash_digit rest ≡ true → list_all is_hash_digit (c ∷ rest) ≡ true
all_grown c rest is all = rw (is, all) refl

decoded_back : (i : ℕ) (digits hash : List ℕ) → list_all is_hash_digit digits ≡ true → decode_pairs i digits ≡ Ok hash → encode_lower hash ≡ digits
unfolding decode_pairs encode_with
decoded_back i [] hash all e = ap encode_lower (sym (decoded_is [] hash e))
decoded_back i (a ∷ []) hash all e = absurd cc
decoded_back i (a ∷ b ∷ rest) hash all e =
    let first = all_cons a (b ∷ rest) all in
    let second = all_cons b rest first.1 in
    let pair = hex_bind (pair_value a b i) (λ byte. decode_pairs (i + 2) rest >=> λ bytes. Ok (byte ∷ bytes)) hash e in
    let high = hex_bind (value_at a i) (λ h. value_at b (i + 1) >=> λ l. Ok (h * 16 + l)) pair.0 pair.1 in
    let low = hex_bind (value_at b (i + 1)) (λ l. Ok (high.0 * 16 + l)) pair.0 high.2 in
    let others = hex_bind (decode_pairs (i + 2) rest) (λ bytes. Ok (pair.0 ∷ bytes)) hash pair.2 in
    let a-is = digit_back a high.0 first.0 (value_is a i (hex_digit_value a) high.0 high.1) in
    let b-is = digit_back b low.0 second.0 (value_is b (i + 1) (hex_digit_value b) low.0 low.1) in
    let byte : high.0 * 16 + low.0 ≡ pair.0 = decoded_is _ _ low.2 in
    let whole : pair.0 ∷ others.0 ≡ hash = decoded_is _ _ others.2 in
    let quotient : pair.0 / 16 ≡ high.0 = omega arith in
    let remainder : pair.0 % 16 ≡ low.0 = omega arith in
    let tail = decoded_back (i + 2) rest others.0 second.1 others.1 in
    rw (← whole, quotient, remainder, a-is.1, b-is.1, tail) refl

-- the hash that forty digits name has these digits
pub hash_digits : (digits hash : List ℕ) → list_all is_hash_digit digits ≡ true → decode_sized digits 20 ≡ Ok hash → (encode_lower hash ≡ digits) × IsDigest hash
hash_digits digits hash all e =
    let size = decode_sized-ok digits 20 hash e in
    let pairs : decode_pairs 0 digits ≡ Ok hash = sym (decode_of-even digits (omega arith)) ∙ sym (decode_sized-twice digits 20 size) ∙ e in
    let facts = decode_pairs-ok 0 digits hash pairs in
    (decoded_back 0 digits hash all pairs, record { size = omega (arith, facts.1); bytes = facts.2 })

-- each digit of a hash is one
pub digits_pass : (hash : List ℕ) → IsBytes hash → list_all is_hash_digit (encode_lower hash) ≡ true
unfolding encode_with
digits_pass [] is = refl
digits_pass (b ∷ rest) is =
    let small : b < 256 = is 0 in
    let high = (digit_at (b / 16) (omega arith)).1 in
    let low = (digit_at (b % 16) (omega arith)).1 in
    rw (high, low) (digits_pass rest (λ i. is (suc i)))

-- ---- digits in a line

pub record TakesDigits (n : ℕ) (before text after rest : List ℕ) : Type 0 where
  pub digits : List ℕ
  pub passes : list_all is_hash_digit digits ≡ true
  pub grown : after ≡ before ++ digits
  pub parts : text ≡ digits ++ rest

pub digits_take : (line n : ℕ) (before : List ℕ) (at : ℕ) (text : List ℕ) (d : List ℕ × ℕ × List ℕ) → digits_at line n before at text ≡ Ok d → TakesDigits n before text d.0 d.2
digits_take line zero before at text d e =
    let all : TakesDigits zero before text before text = record { digits = []; passes = refl; grown = sym (append-nil before); parts = refl } in
    subst (λ (x : List ℕ × ℕ × List ℕ). TakesDigits zero before text x.0 x.2) (ok_is (before, at, text) d e) all
digits_take line (suc n) before at [] d e = absurd cc
digits_take line (suc n) before at (b ∷ text) d e =
    let inside = chosen (ltb at 1048576) (cond (is_hash_digit b) (digits_at line n (before ++ b ∷ []) (at + 1) text) (Err (BadHeader line))) (BadHeader 0) d e in
    let digit = chosen (is_hash_digit b) (digits_at line n (before ++ b ∷ []) (at + 1) text) (BadHeader line) d inside.1 in
    let more = digits_take line n (before ++ b ∷ []) (at + 1) text d digit.1 in
    record {
      digits = b ∷ more.digits;
      passes = all_grown b more.digits digit.0 more.passes;
      grown = more.grown ∙ append_assoc before (b ∷ []) more.digits;
      parts = ap (λ (x : List ℕ). b ∷ x) more.parts;
    }

pub digits_again : (line n : ℕ) (before digits : List ℕ) (at : ℕ) (rest : List ℕ) → length digits ≡ n → list_all is_hash_digit digits ≡ true → at + n ≤ 1048576
    → digits_at line n before at (digits ++ rest) ≡ Ok (before ++ digits, at + n, rest)
digits_again line zero before [] at rest size all room = ap (λ (x : List ℕ). Ok (x, at, rest)) (sym (append-nil before)) ∙ ap (λ (x : ℕ). Ok (before ++ [], x, rest)) (sym (add-zero at))
digits_again line zero before (b ∷ digits) at rest size all room = absurd (omega arith)
digits_again line (suc n) before [] at rest size all room = absurd (omega arith)
digits_again line (suc n) before (b ∷ digits) at rest size all room =
    let first = all_cons b digits all in
    let below : ltb at 1048576 ≡ true = lt-ltb _ _ (omega arith) in
    let next : at + 1 + n ≡ at + suc n = omega arith in
    rw (below, first.0) (digits_again line n (before ++ b ∷ []) digits (at + 1) rest (omega arith) first.1 (omega arith)
    ∙ ap (λ (x : List ℕ). Ok (x, at + 1 + n, rest)) (append_assoc before (b ∷ []) digits) ∙ ap (λ (x : ℕ). Ok (before ++ b ∷ digits, x, rest)) next)
