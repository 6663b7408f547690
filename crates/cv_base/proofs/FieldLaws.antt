-- A field that is read is the field that was written, and what was written is read again.
use Rattle.std.proofs.Common.{◌≡◌, ℕ, ◌+◌, ◌^◌, ◌<◌, ◌≤◌, Bool, true, false, cond, leb, ltb, List, ◌++◌, length, take, drop, Option, Some, None, Result, Ok, Err, refl, sym, ap, subst, ◌∙◌, append_assoc, arith, inl, inr}
use Rattle.std.specs.Int.{Width, w16, w32, w64, byte_len, from_be_bytes, to_be_bytes}
use Rattle.std.proofs.lemmas.Bool.{cases_lt, ltb-false, le-ltb}
use Rattle.std.proofs.lemmas.List.{take_at, drop_at, take-append-drop, length-append, length-take, get_or-drop, get_or-take, get_or_past}
use Rattle.std.proofs.lemmas.Nat.{be_bytes_2, be_bytes_4, be_bytes_8, from_be_bytes-to_be_bytes_2, from_be_bytes-to_be_bytes_4, from_be_bytes-to_be_bytes_8}
use Rattle.hex.specs.Hex.{IsBytes}
use Rattle.cv_base.specs.Sequence.{◌>>=◌}
use Rattle.cv_base.specs.Fields.{accepted, number_at, bytes_at, length_at, text_field, Takes, TakesBytes, IsWide}

pub IsBytes-drop : (n : ℕ) (bytes : List ℕ) → IsBytes bytes → IsBytes (drop n bytes)
IsBytes-drop n bytes h i = rw get_or-drop (h (n + i))

pub IsBytes-take : (n : ℕ) (bytes : List ℕ) → IsBytes bytes → IsBytes (take n bytes)
IsBytes-take n bytes h i =
    elim (cases_lt i n) [
      | inl lt ↦ rw (get_or-take n bytes i 0 lt) (h i)
      | inr le ↦ rw (get_or_past (take n bytes) i 0 (omega (arith, length-take n bytes))) (omega arith)
    ]

-- the value of a step that did not fail
pub bind_ok : {F A B : Type 0} (r : Result A F) (f : A → Result B F) (y : B) → (r >>= f) ≡ Ok y → (x : A) × (r ≡ Ok x) × (f x ≡ Ok y)
bind_ok (Ok x) f y e = (x, refl, e)
bind_ok (Err d) f y e = absurd cc

-- a test that did not fail
pub guard_ok : {F A : Type 0} (b : Bool) (d : F) (x y : A) → cond b (Err d) (Ok x) ≡ Ok y → (b ≡ false) × (x ≡ y)
guard_ok true d x y e = absurd cc
guard_ok false d x y e = (refl, cc)

pub guard_ended : {F A : Type 0} (b : Bool) (d : F) (x y : A) → cond b (Ok x) (Err d) ≡ Ok y → (b ≡ true) × (x ≡ y)
guard_ended true d x y e = (refl, cc)
guard_ended false d x y e = absurd cc

-- the same, where more follows
pub passes : {F A : Type 0} (b : Bool) (d : F) (r : Result A F) (y : A) → cond b (Err d) r ≡ Ok y → (b ≡ false) × (r ≡ Ok y)
passes true d r y e = absurd cc
passes false d r y e = (refl, e)

pub ok_is : {A F : Type 0} (x y : A) → ◌≡◌ {A = Result A F} (Ok x) (Ok y) → x ≡ y
ok_is x y e = cc

pub accepted_ok : {F A : Type 0} (d : F) (o : Option A) (x : A) → accepted d o ≡ Ok x → o ≡ Some x
accepted_ok d None x e = absurd cc
accepted_ok {F} {A} d (Some y) x e = let same : y ≡ x = cc in ap (λ (z : A). Some z) same

pub Takes-then : (a x b y c : List ℕ) → Takes a x b → Takes b y c → Takes a (x ++ y) c
Takes-then a x b y c p q = record { parts = p.parts ∙ ap (λ (t : List ℕ). x ++ t) q.parts ∙ sym (append_assoc x y c); rest_fits = q.rest_fits }

-- ---- numbers

pub wide16 : IsWide w16 (2 ^ 16)
wide16 = record {
  len = λ n. refl;
  back = λ bytes len fits. be_bytes_2 bytes _ len fits refl;
  again = λ n lt. from_be_bytes-to_be_bytes_2 n lt;
  below = λ bytes fits. omega (arith, fits 0, fits 1);
}

pub wide32 : IsWide w32 (2 ^ 32)
wide32 = record {
  len = λ n. refl;
  back = λ bytes len fits. be_bytes_4 bytes _ len fits refl;
  again = λ n lt. from_be_bytes-to_be_bytes_4 n lt;
  below = λ bytes fits. omega (arith, fits 0, fits 1, fits 2, fits 3);
}

pub wide64 : IsWide w64 (2 ^ 64)
wide64 = record {
  len = λ n. refl;
  back = λ bytes len fits. be_bytes_8 bytes _ len fits refl;
  again = λ n lt. from_be_bytes-to_be_bytes_8 n lt;
  below = λ bytes fits. omega (arith, fits 0, fits 1, fits 2, fits 3, fits 4, fits 5, fits 6, fits 7);
}

pub number_takes : {F : Type 0} (short : F) (w : Width) (limit : ℕ) (wide : IsWide w limit) (bytes : List ℕ) (n : ℕ) (rest : List ℕ) → IsBytes bytes → number_at short w bytes ≡ Ok (n, rest) → Takes bytes (to_be_bytes w n) rest × (n < limit)
number_takes short w limit wide bytes n rest fits e =
    let g = guard_ok (ltb (length bytes) (byte_len w)) short (from_be_bytes w (take (byte_len w) bytes), drop (byte_len w) bytes) (n, rest) e in
    let long : byte_len w ≤ length bytes = ltb-false _ _ g.0 in
    let n-is : from_be_bytes w (take (byte_len w) bytes) ≡ n = ap (λ (p : ℕ × List ℕ). p.0) g.1 in
    let rest-is : drop (byte_len w) bytes ≡ rest = ap (λ (p : ℕ × List ℕ). p.1) g.1 in
    let front : to_be_bytes w n ≡ take (byte_len w) bytes = rw (← n-is) (wide.back (take (byte_len w) bytes) (omega (arith, length-take (byte_len w) bytes)) (IsBytes-take (byte_len w) bytes fits)) in
    (record { parts = rw (front, ← rest-is) (sym (take-append-drop (byte_len w) bytes)); rest_fits = rw (← rest-is) (IsBytes-drop (byte_len w) bytes fits) }, rw (← n-is) (wide.below (take (byte_len w) bytes) (IsBytes-take (byte_len w) bytes fits)))

pub number_again : {F : Type 0} (short : F) (w : Width) (limit : ℕ) (wide : IsWide w limit) (n : ℕ) (rest : List ℕ) → n < limit → number_at short w (to_be_bytes w n ++ rest) ≡ Ok (n, rest)
number_again short w limit wide n rest lt =
    let len = wide.len n in
    let long : ltb (length (to_be_bytes w n ++ rest)) (byte_len w) ≡ false = le-ltb _ _ (omega (arith, length-append (to_be_bytes w n) rest)) in
    rw (long, take_at (to_be_bytes w n) rest (byte_len w) len, drop_at (to_be_bytes w n) rest (byte_len w) len, wide.again n lt) refl

-- ---- bytes

pub bytes_take : {F : Type 0} (short : F) (n : ℕ) (bytes text rest : List ℕ) → IsBytes bytes → bytes_at short n bytes ≡ Ok (text, rest) → TakesBytes n bytes text rest
bytes_take short n bytes text rest fits e =
    let g = guard_ok (ltb (length bytes) n) short (take n bytes, drop n bytes) (text, rest) e in
    let long : n ≤ length bytes = ltb-false _ _ g.0 in
    let taken : TakesBytes n bytes (take n bytes) (drop n bytes) = record {
      takes = record { parts = sym (take-append-drop n bytes); rest_fits = IsBytes-drop n bytes fits };
      size = omega (arith, length-take n bytes);
      fits = IsBytes-take n bytes fits;
    } in
    subst (λ (p : List ℕ × List ℕ). TakesBytes n bytes p.0 p.1) g.1 taken

pub bytes_again : {F : Type 0} (short : F) (n : ℕ) (text rest : List ℕ) → length text ≡ n → bytes_at short n (text ++ rest) ≡ Ok (text, rest)
bytes_again short n text rest len =
    let long : ltb (length (text ++ rest)) n ≡ false = le-ltb _ _ (omega (arith, length-append text rest)) in
    rw (long, take_at text rest n len, drop_at text rest n len) refl

-- ---- texts behind their lengths

pub length_takes : {F : Type 0} (short long : F) (limit : ℕ) (text : List ℕ) (n : ℕ) (rest : List ℕ) → IsBytes text → length_at short long limit text ≡ Ok (n, rest) → Takes text (to_be_bytes w16 n) rest × (leb n limit ≡ true)
unfolding length_at
length_takes short long limit text n rest fits e =
    let a = bind_ok (number_at short w16 text) (λ len. cond (leb len.0 limit) (Ok len) (Err long)) (n, rest) e in
    let g = guard_ended (leb a.0.0 limit) long a.0 (n, rest) a.2 in
    let t = number_takes short w16 (2 ^ 16) wide16 text a.0.0 a.0.1 fits a.1 in
    subst (λ (x : ℕ × List ℕ). Takes text (to_be_bytes w16 x.0) x.1 × (leb x.0 limit ≡ true)) g.1 (t.0, g.0)

pub length_again : {F : Type 0} (short long : F) (limit n : ℕ) (rest : List ℕ) → n < 2 ^ 16 → leb n limit ≡ true → length_at short long limit (to_be_bytes w16 n ++ rest) ≡ Ok (n, rest)
unfolding length_at
length_again short long limit n rest lt le = rw (number_again short w16 (2 ^ 16) wide16 n rest lt, le) refl

-- a length and so many bytes are a text
pub text_taken : (text : List ℕ) (n : ℕ) (after bytes rest : List ℕ) → Takes text (to_be_bytes w16 n) after → TakesBytes n after bytes rest → Takes text (text_field bytes) rest
text_taken text n after bytes rest len t =
    subst (λ (k : ℕ). Takes text (to_be_bytes w16 k ++ bytes) rest) (sym t.size) (Takes-then text (to_be_bytes w16 n) after bytes rest len t.takes)
