-- Fixed bytes and decimals, written and read.
use Rattle.std.proofs.Common.{◌≡◌, ℕ, zero, suc, ◌+◌, ◌-◌, ◌*◌, ◌/◌, ◌%◌, ◌^◌, ◌<◌, ◌≤◌, Bool, true, false, cond, not, ◌&&◌, ltb, leb, eqb, List, [], ◌∷◌, ◌++◌, length, Result, Ok, Err, Option, Some, None, refl, sym, ap, subst, ◌∙◌, inl, inr, arith, append_assoc, length-append, decimal, add-zero}
use Rattle.std.proofs.lemmas.Bool.{lt-ltb, eq-eqb, eqb-true, leb-true, le-leb, ne_eqb, and_parts}
use Rattle.std.proofs.lemmas.List.{append-nil}
use Rattle.std.proofs.lemmas.Fmt.{decimal_digit, decimal_step, decimal_by_steps}
use Rattle.std.specs.Char.{is_ascii_digit}
use Rattle.cv_pack.specs.declared.pack_fault.PackFault.{PackFault}
use Rattle.cv_pack.specs.declared.pack_fault.PackFault.TheVariants.{BadHeader}
use Rattle.cv_base.specs.Sequence.{◌>>=◌}
use Rattle.cv_base.proofs.Laws.{bind_ok, either, ok_is}
use Rattle.cv_pack.specs.Reading.{text_at, with_digit, limited, ended, number_at}

-- a choice that did not fail
pub chosen : {A : Type 0} (b : Bool) (x : Result A PackFault) (fault : PackFault) (y : A) → cond b x (Err fault) ≡ Ok y → (b ≡ true) × (x ≡ Ok y)
chosen true x fault y e = (refl, e)
chosen false x fault y e = absurd cc

abbrev pub done : {A : Type 0} → A → Result A PackFault
done x = Ok x

-- ---- fixed bytes

pub text_takes : (line : ℕ) (xs : List ℕ) (at : ℕ) (text : List ℕ) (a : ℕ × List ℕ) → text_at line xs at text ≡ Ok a → text ≡ xs ++ a.1
text_takes line [] at text a e = ap (λ (p : ℕ × List ℕ). p.1) (ok_is (at, text) a e)
text_takes line (x ∷ xs) at [] a e = absurd cc
text_takes line (x ∷ xs) at (b ∷ text) a e =
    let within = chosen (ltb at 1048576) (cond (eqb b x) (text_at line xs (at + 1) text) (Err (BadHeader line))) (BadHeader 0) a e in
    let same = chosen (eqb b x) (text_at line xs (at + 1) text) (BadHeader line) a within.1 in
    let head : b ≡ x = eqb-true b x same.0 in
    rw (head, ← text_takes line xs (at + 1) text a same.1) refl

pub text_again : (line : ℕ) (xs : List ℕ) (at : ℕ) (rest : List ℕ) → at + length xs ≤ 1048576 → text_at line xs at (xs ++ rest) ≡ Ok (at + length xs, rest)
text_again line [] at rest room = ap (λ (n : ℕ). Ok (n, rest)) (sym (add-zero at))
text_again line (x ∷ xs) at rest room =
    let below : ltb at 1048576 ≡ true = lt-ltb _ _ (omega arith) in
    let same : eqb x x ≡ true = eq-eqb x x refl in
    let next : at + 1 + length xs ≡ at + suc (length xs) = omega arith in
    rw (below, same) (text_again line xs (at + 1) rest (omega arith) ∙ ap (λ (n : ℕ). Ok (n, rest)) next)

-- ---- decimals

-- the code of a digit, and its value
pub digit_range : (b : ℕ) → is_ascii_digit b ≡ true → (48 ≤ b) × (b ≤ 57)
digit_range b is = let both = and_parts (leb 48 b) (leb b 57) is in (leb-true _ _ both.0, leb-true _ _ both.1)

pub digit_is : (b : ℕ) → 48 ≤ b → b ≤ 57 → is_ascii_digit b ≡ true
digit_is b low high = let l : leb 48 b ≡ true = le-leb _ _ low in let h : leb b 57 ≡ true = le-leb _ _ high in rw (l, h) refl

-- digits that follow a number complete it to that number
abbrev Completes : Option ℕ → List ℕ → ℕ → Type 0
Completes None digits n = digits ≡ decimal n
Completes (Some v) digits n = decimal v ++ digits ≡ decimal n

abbrev IsWithin : Option ℕ → ℕ → Type 0
IsWithin None limit = Unit {0}
IsWithin (Some v) limit = v ≤ limit

not_zero : (n : ℕ) → not (eqb n 0) ≡ true → 0 < n
not_zero zero e = absurd cc
not_zero (suc n) e = omega arith

pub some_is : (m n : ℕ) → (let x : Option ℕ = Some m in x) ≡ Some n → m ≡ n
some_is m n e = cc

digit_more : (v b w : ℕ) → with_digit (Some v) b ≡ Some w → (0 < v) × (48 ≤ b) × (b ≤ 57) × (w ≡ v * 10 + (b - 48))
digit_more v b w e = elim (either (is_ascii_digit b && not (eqb v 0)) (Some (v * 10 + (b - 48))) None (Some w) e) [
  | inl does ↦
      let both = and_parts (is_ascii_digit b) (not (eqb v 0)) does.0 in
      let range = digit_range b both.0 in
      (not_zero v both.1, range.0, range.1, sym (some_is _ _ does.1))
  | inr doesnt ↦ absurd (let wrong = doesnt.1 in cc)
]

digit_first : (b w : ℕ) → with_digit None b ≡ Some w → (48 ≤ b) × (b ≤ 57) × (w ≡ b - 48)
digit_first b w e = elim (either (is_ascii_digit b) (Some (b - 48)) None (Some w) e) [
  | inl does ↦ let range = digit_range b does.0 in (range.0, range.1, sym (some_is _ _ does.1))
  | inr doesnt ↦ absurd (let wrong = doesnt.1 in cc)
]

decimal_more : (v b w : ℕ) → 0 < v → 48 ≤ b → b ≤ 57 → w ≡ v * 10 + (b - 48) → w < 2 ^ 64 → decimal w ≡ decimal v ++ b ∷ []
decimal_more v b w some low high is small =
    let quotient : w / 10 ≡ v = omega arith in
    let digit : 48 + w % 10 ≡ b = omega arith in
    decimal_step w (omega arith) small ∙ ap (λ (x : ℕ). decimal x ++ (48 + w % 10) ∷ []) quotient ∙ ap (λ (x : ℕ). decimal v ++ x ∷ []) digit

complete : (so_far : Option ℕ) (b w : ℕ) (digits : List ℕ) (n : ℕ) → w < 2 ^ 64 → with_digit so_far b ≡ Some w → Completes (Some w) digits n → Completes so_far (b ∷ digits) n
complete None b w digits n small is h =
    let d = digit_first b w is in
    let same : 48 + w ≡ b = omega arith in
    let first : decimal w ≡ b ∷ [] = decimal_digit w (omega arith) ∙ ap (λ (x : ℕ). x ∷ []) same in
    ap (λ (x : List ℕ). x ++ digits) (sym first) ∙ h
complete (Some v) b w digits n small is h =
    let d = digit_more v b w is in
    let more = decimal_more v b w d.0 d.1 d.2 d.3 small in
    sym (append_assoc (decimal v) (b ∷ []) digits) ∙ ap (λ (x : List ℕ). x ++ digits) (sym more) ∙ h

limited_takes : (line limit : ℕ) (over : PackFault) (number : Option ℕ) (w : ℕ) → limited line limit over number ≡ Ok w → (number ≡ Some w) × (w ≤ limit)
limited_takes line limit over None w e = absurd cc
limited_takes line limit over (Some n) w e =
    let c = chosen (leb n limit) (Ok n) over w e in
    let same : n ≡ w = ok_is n w c.1 in
    (ap (λ (x : ℕ). Some x) same, subst (λ (x : ℕ). x ≤ limit) same (leb-true _ _ c.0))

ended_takes : (line : ℕ) (so_far : Option ℕ) (n : ℕ) → ended line so_far ≡ Ok n → so_far ≡ Some n
ended_takes line None n e = absurd cc
ended_takes line (Some v) n e = ap (λ (x : ℕ). Some x) (ok_is v n e)

-- the number that was read, and its digits
pub record TakesNumber (so_far : Option ℕ) (limit : ℕ) (text : List ℕ) (n : ℕ) (rest : List ℕ) : Type 0 where
  pub digits : List ℕ
  pub completes : Completes so_far digits n
  pub parts : text ≡ digits ++ 10 ∷ rest
  pub within : n ≤ limit

number_on : (line limit : ℕ) (over : PackFault) → limit < 2 ^ 64 → (so_far : Option ℕ) (at : ℕ) (text : List ℕ) (r : ℕ × ℕ × List ℕ) → IsWithin so_far limit → number_at line limit over so_far at text ≡ Ok r
    → TakesNumber so_far limit text r.0 r.2
number_on line limit over small so_far at [] r within e = absurd cc
number_on line limit over small so_far at (b ∷ text) r within e =
    let inside = chosen (ltb at 1048576) (cond (eqb b 10) (ended line so_far >>= λ n. Ok (n, at + 1, text)) (limited line limit over (with_digit so_far b) >>= λ n. number_at line limit over (Some n) (at + 1) text)) (BadHeader 0) r e in
    elim (either (eqb b 10) (ended line so_far >>= λ n. Ok (n, at + 1, text)) (limited line limit over (with_digit so_far b) >>= λ n. number_at line limit over (Some n) (at + 1) text) (Ok r) inside.1) [
      | inl does ↦
          let end = bind_ok (ended line so_far) (λ n. Ok (n, at + 1, text)) r does.1 in
          let value : so_far ≡ Some end.0 = ended_takes line so_far end.0 end.1 in
          let newline : b ≡ 10 = eqb-true b 10 does.0 in
          let all : TakesNumber so_far limit (b ∷ text) end.0 text = record {
            digits = [];
            completes = subst (λ (o : Option ℕ). Completes o [] end.0) (sym value) (append-nil (decimal end.0));
            parts = ap (λ (x : ℕ). x ∷ text) newline;
            within = subst (λ (o : Option ℕ). IsWithin o limit) value within;
          } in
          subst (λ (x : ℕ × ℕ × List ℕ). TakesNumber so_far limit (b ∷ text) x.0 x.2) (ok_is (end.0, at + 1, text) r end.2) all
      | inr doesnt ↦
          let step = bind_ok (limited line limit over (with_digit so_far b)) (λ n. number_at line limit over (Some n) (at + 1) text) r doesnt.1 in
          let digit = limited_takes line limit over (with_digit so_far b) step.0 step.1 in
          let rest = number_on line limit over small (Some step.0) (at + 1) text r digit.1 step.2 in
          record {
            digits = b ∷ rest.digits;
            completes = complete so_far b step.0 rest.digits r.0 (omega arith) digit.0 rest.completes;
            parts = ap (λ (x : List ℕ). b ∷ x) rest.parts;
            within = rest.within;
          }
    ]

pub number_takes : (line limit : ℕ) (over : PackFault) (at : ℕ) (text : List ℕ) (r : ℕ × ℕ × List ℕ) → limit < 2 ^ 64 → number_at line limit over None at text ≡ Ok r → (text ≡ decimal r.0 ++ 10 ∷ r.2) × (r.0 ≤ limit)
number_takes line limit over at text r small e =
    let t = number_on line limit over small None at text r tt e in
    (t.parts ∙ ap (λ (x : List ℕ). x ++ 10 ∷ r.2) t.completes, t.within)

digit_step : (line limit : ℕ) (over : PackFault) (so_far : Option ℕ) (at b w : ℕ) (text : List ℕ) → with_digit so_far b ≡ Some w → w ≤ limit → at < 1048576 → 48 ≤ b
    → number_at line limit over so_far at (b ∷ text) ≡ number_at line limit over (Some w) (at + 1) text
digit_step line limit over so_far at b w text digit within room low =
    let below : ltb at 1048576 ≡ true = lt-ltb _ _ room in
    let apart : eqb b 10 ≡ false = ne_eqb b 10 (λ e. omega arith) in
    let fits : leb w limit ≡ true = le-leb _ _ within in
    rw (below, apart, digit, fits) refl

abbrev Reached : ℕ → List ℕ → Type 0
Reached n digits = (line limit : ℕ) (over : PackFault) (at : ℕ) (tail : List ℕ) → n ≤ limit → at + length digits ≤ 1048576
    → number_at line limit over None at (digits ++ tail) ≡ number_at line limit over (Some n) (at + length digits) tail

first_reached : (n : ℕ) → n < 10 → Reached n ((48 + n) ∷ [])
first_reached n small line limit over at tail within room =
    let digit : is_ascii_digit (48 + n) ≡ true = digit_is (48 + n) (omega arith) (omega arith) in
    let value : 48 + n - 48 ≡ n = omega arith in
    let is : with_digit None (48 + n) ≡ Some n = rw (digit, value) refl in
    digit_step line limit over None at (48 + n) n tail is within (omega arith) (omega arith)

more_reached : (n : ℕ) (digits : List ℕ) → 10 ≤ n → Reached (n / 10) digits → Reached n (digits ++ ((48 + n % 10) ∷ []))
more_reached n digits large before line limit over at tail within room =
    let b : ℕ = 48 + n % 10 in
    let size : length (digits ++ b ∷ []) ≡ length digits + 1 = length-append digits (b ∷ []) in
    let digit : is_ascii_digit b ≡ true = digit_is b (omega arith) (omega arith) in
    let some : not (eqb (n / 10) 0) ≡ true = let apart : eqb (n / 10) 0 ≡ false = ne_eqb (n / 10) 0 (λ e. omega arith) in rw apart refl in
    let value : n / 10 * 10 + (b - 48) ≡ n = omega arith in
    let is : with_digit (Some (n / 10)) b ≡ Some n = rw (digit, some, value) refl in
    let next : at + length digits + 1 ≡ at + length (digits ++ b ∷ []) = omega (arith, size) in
    ap (number_at line limit over None at) (append_assoc digits (b ∷ []) tail)
    ∙ before line limit over at (b ∷ tail) (omega arith) (omega (arith, size))
    ∙ digit_step line limit over (Some (n / 10)) (at + length digits) b n tail is within (omega (arith, size)) (omega arith)
    ∙ ap (λ (x : ℕ). number_at line limit over (Some n) x tail) next

pub number_again : (line limit : ℕ) (over : PackFault) (n at : ℕ) (rest : List ℕ) → n ≤ limit → n < 2 ^ 64 → at + length (decimal n) < 1048576
    → number_at line limit over None at (decimal n ++ 10 ∷ rest) ≡ Ok (n, at + length (decimal n) + 1, rest)
number_again line limit over n at rest within small room =
    let below : ltb (at + length (decimal n)) 1048576 ≡ true = lt-ltb _ _ room in
    decimal_by_steps Reached first_reached more_reached n small line limit over at (10 ∷ rest) within (omega arith) ∙ rw below refl
