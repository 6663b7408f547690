-- One step of reading a header.
use Rattle.std.proofs.Common.{get_or, take, drop, add-one, append_assoc, drop-cons, take-append-drop, ◌≡◌, ℕ, zero, suc, ◌+◌, ◌-◌, ◌<◌, ◌≤◌, true, false, ltb, eqb, if◌then◌else◌, ◌==◌, List, [], ◌∷◌, ◌++◌, length, Result, Ok, Err, refl, sym, ap, subst, ◌∙◌, arith, length-append}
use Rattle.std.proofs.Common.{inl, inr}
use Rattle.std.proofs.lemmas.Bool.{lt-ltb, le-ltb, eqb-true, cases_Bool, false_from_ne_true}
use Rattle.cv_pack.specs.declared.entry.Entry.{Entry}
use Rattle.cv_pack.specs.declared.pack_fault.PackFault.{PackFault}
use Rattle.cv_pack.specs.declared.pack_fault.PackFault.TheVariants.{BadHeader}
use Rattle.cv_pack.specs.declared.field.Field.{Field}
use Rattle.cv_pack.specs.declared.field.Field.TheVariants as fields
use Rattle.cv_pack.specs.declared.field.Mark.{Mark}
use Rattle.cv_pack.specs.declared.field.Mark.TheVariants.{FormatLetter, FormatDigit, FormatEnd, TotalLetter, CountLetter, FirstDash, SecondDash, LineLetter, LineBlank}
use Rattle.cv_pack.specs.FieldsInner.{mark_byte, after_mark}
use Rattle.cv_pack.specs.Pack.{total_size}
use Rattle.cv_base.specs.Sequence.{◌>>=◌}
use Rattle.cv_pack.specs.Reading.{Header, text_at, is_hash_digit, suffix_from, hash_from, lines_from}
use Rattle.cv_pack.specs.HeaderState.{Begun, Progress, progress, after_line, from_mark, from_field, header_on, Faults}
use Rattle.cv_pack.specs.HeaderStateInner.{line_after, Takes, Leads, LeadsAfterHash}

-- no line is left, and the total is the sum, or isn't
pub lines_end : (total left : ℕ) (es : List Entry) (at : ℕ) (text : List ℕ) → left ≡ 0 → eqb (total_size es) total ≡ true → lines_from total left es at text ≡ Ok (es, at, text)
unfolding lines_from
lines_end total left es at text none same = rw (none, same) refl

pub lines_wrong : (total left : ℕ) (es : List Entry) (at : ℕ) (text : List ℕ) → left ≡ 0 → eqb (total_size es) total ≡ false → lines_from total left es at text ≡ Err (BadHeader 3)
unfolding lines_from
lines_wrong total left es at text none differs = rw (none, differs) refl

-- a line is left
line_next : (total n : ℕ) (es : List Entry) (digits : List ℕ) (at : ℕ) (text : List ℕ) → digits ≡ []
    → lines_from total (suc n) es at text ≡ (text_at at (67 ∷ 32 ∷ []) at text >>= λ a. hash_from (λ e place rest. lines_from total n (es ++ e ∷ []) place rest) es at (40 - length digits) digits a.0 a.1)
unfolding lines_from
line_next total n es digits at text none = rw none refl

pub lines_more : (total left : ℕ) (es : List Entry) (digits : List ℕ) (at : ℕ) (text : List ℕ) → 0 < left → digits ≡ []
    → lines_from total left es at text ≡ (text_at at (67 ∷ 32 ∷ []) at text >>= λ a. hash_from (λ e place rest. lines_from total (left - 1) (es ++ e ∷ []) place rest) es at (40 - length digits) digits a.0 a.1)
lines_more total left es digits at text some none =
    let n : left ≡ suc (left - 1) = omega arith in
    ap (λ (x : ℕ). lines_from total x es at text) n ∙ line_next total (left - 1) es digits at text none

-- the digits of the hash are there
pub hash_end : (k : Entry → ℕ → List ℕ → Result Header PackFault) (es : List Entry) (line : ℕ) (digits : List ℕ) (at : ℕ) (text : List ℕ) → 40 ≤ length digits
    → hash_from k es line (40 - length digits) digits at text ≡ suffix_from k es line digits at text
hash_end k es line digits at text long =
    let none : 40 - length digits ≡ 0 = omega arith in
    rw none refl

no_newline : (b : ℕ) → is_hash_digit b ≡ true → eqb b 10 ≡ false
no_newline b digit = elim (cases_Bool (eqb b 10)) [
  | inl is ↦
      let e : b ≡ 10 = eqb-true b 10 is in
      let wrong : is_hash_digit 10 ≡ true = ap is_hash_digit (sym e) ∙ digit in
      absurd cc
  | inr apart ↦ apart
]

-- one digit more
pub hash_more : (k : Entry → ℕ → List ℕ → Result Header PackFault) (es : List Entry) (line : ℕ) (digits new : List ℕ) (at b : ℕ) (text : List ℕ) → length digits < 40 → new ≡ digits ++ b ∷ [] → at < 1048576
    → is_hash_digit b ≡ true → hash_from k es line (40 - length digits) digits at (b ∷ text) ≡ hash_from k es (line_after line b (at + 1)) (40 - length new) new (at + 1) text
hash_more k es line digits new at b text short grown within digit =
    let n : 40 - length digits ≡ suc (40 - length (digits ++ b ∷ [])) = omega (arith, length-append digits (b ∷ [])) in
    let below : ltb at 1048576 ≡ true = lt-ltb _ _ within in
    let same : eqb b 10 ≡ false = no_newline b digit in
    rw (grown, n, below, digit, same) refl

-- what the byte after the digits leads to
pub leads_end : (r : Begun) (b : ℕ) (result : Result Field PackFault) → 40 ≤ length r.digits → LeadsAfterHash r b result → Leads r r fields.Hash b result
leads_end r b (Ok to) long h = λ at text within. hash_end (after_line (progress r)) r.entries r.line r.digits at (b ∷ text) long ∙ h at text within
leads_end r b (Err fault) long h = λ at text within.
    subst (λ (x : Result Header PackFault). Faults fault x) (sym (hash_end (after_line (progress r)) r.entries r.line r.digits at (b ∷ text) long)) (h at text within)

past_hash : (k : Entry → ℕ → List ℕ → Result Header PackFault) (es : List Entry) (line n : ℕ) (digits : List ℕ) (at b : ℕ) (text : List ℕ) → 1048576 ≤ at
    → hash_from k es line n digits at (b ∷ text) ≡ Err (BadHeader 0)
past_hash k es line zero digits at b text past = let below : ltb at 1048576 ≡ false = le-ltb _ _ past in rw below refl
past_hash k es line (suc n) digits at b text past = let below : ltb at 1048576 ≡ false = le-ltb _ _ past in rw below refl

-- the header is at its limit
pub past_limit : (p : Progress) (f : Field) (line at b : ℕ) (text : List ℕ) → (f ≡ fields.Whole → ⊥) → 1048576 ≤ at → from_field p f line at (b ∷ text) ≡ Err (BadHeader 0)
past_limit p (fields.Mark FormatLetter) line at b text open_ past = let below : ltb at 1048576 ≡ false = le-ltb _ _ past in rw below refl
past_limit p (fields.Mark FormatDigit) line at b text open_ past = let below : ltb at 1048576 ≡ false = le-ltb _ _ past in rw below refl
past_limit p (fields.Mark FormatEnd) line at b text open_ past = let below : ltb at 1048576 ≡ false = le-ltb _ _ past in rw below refl
past_limit p (fields.Mark TotalLetter) line at b text open_ past = let below : ltb at 1048576 ≡ false = le-ltb _ _ past in rw below refl
past_limit p (fields.Mark CountLetter) line at b text open_ past = let below : ltb at 1048576 ≡ false = le-ltb _ _ past in rw below refl
past_limit p (fields.Mark FirstDash) line at b text open_ past = let below : ltb at 1048576 ≡ false = le-ltb _ _ past in rw below refl
past_limit p (fields.Mark SecondDash) line at b text open_ past = let below : ltb at 1048576 ≡ false = le-ltb _ _ past in rw below refl
past_limit p (fields.Mark LineLetter) line at b text open_ past = let below : ltb at 1048576 ≡ false = le-ltb _ _ past in rw below refl
past_limit p (fields.Mark LineBlank) line at b text open_ past = let below : ltb at 1048576 ≡ false = le-ltb _ _ past in rw below refl
past_limit p (fields.Total so_far) line at b text open_ past = let below : ltb at 1048576 ≡ false = le-ltb _ _ past in rw below refl
past_limit p (fields.Count so_far) line at b text open_ past = let below : ltb at 1048576 ≡ false = le-ltb _ _ past in rw below refl
past_limit p fields.DashesEnd line at b text open_ past = let below : ltb at 1048576 ≡ false = le-ltb _ _ past in rw below refl
past_limit p fields.Hash line at b text open_ past = past_hash (after_line p) p.entries line (40 - length p.digits) p.digits at b text past
past_limit p (fields.SizeBlank id) line at b text open_ past = let below : ltb at 1048576 ≡ false = le-ltb _ _ past in rw below refl
past_limit p (fields.Size id so_far) line at b text open_ past = let below : ltb at 1048576 ≡ false = le-ltb _ _ past in rw below refl
past_limit p fields.Whole line at b text open_ past = absurd (open_ refl)

-- a byte that stands so in every header, and another in its place
mark_taken : (p : Progress) (m : Mark) (line at : ℕ) (text : List ℕ) → at < 1048576
    → from_mark p m line at (mark_byte m ∷ text) ≡ from_field p (after_mark m) (line_after line (mark_byte m) (at + 1)) (at + 1) text
mark_taken p FormatLetter line at text within = let below : ltb at 1048576 ≡ true = lt-ltb _ _ within in rw below refl
mark_taken p FormatDigit line at text within = let below : ltb at 1048576 ≡ true = lt-ltb _ _ within in rw below refl
mark_taken p FormatEnd line at text within = let below : ltb at 1048576 ≡ true = lt-ltb _ _ within in rw below refl
mark_taken p TotalLetter line at text within = let below : ltb at 1048576 ≡ true = lt-ltb _ _ within in rw below refl
mark_taken p CountLetter line at text within = let below : ltb at 1048576 ≡ true = lt-ltb _ _ within in rw below refl
mark_taken p FirstDash line at text within = let below : ltb at 1048576 ≡ true = lt-ltb _ _ within in rw below refl
mark_taken p SecondDash line at text within = let below : ltb at 1048576 ≡ true = lt-ltb _ _ within in rw below refl
mark_taken p LineLetter line at text within = let below : ltb at 1048576 ≡ true = lt-ltb _ _ within in rw below refl
mark_taken p LineBlank line at text within = let below : ltb at 1048576 ≡ true = lt-ltb _ _ within in rw below refl

mark_refused : (p : Progress) (m : Mark) (line at b : ℕ) (text : List ℕ) → at < 1048576 → eqb b (mark_byte m) ≡ false → from_mark p m line at (b ∷ text) ≡ Err (BadHeader line)
mark_refused p FormatLetter line at b text within other = let below : ltb at 1048576 ≡ true = lt-ltb _ _ within in rw (below, other) refl
mark_refused p FormatDigit line at b text within other = let below : ltb at 1048576 ≡ true = lt-ltb _ _ within in rw (below, other) refl
mark_refused p FormatEnd line at b text within other = let below : ltb at 1048576 ≡ true = lt-ltb _ _ within in rw (below, other) refl
mark_refused p TotalLetter line at b text within other = let below : ltb at 1048576 ≡ true = lt-ltb _ _ within in rw (below, other) refl
mark_refused p CountLetter line at b text within other = let below : ltb at 1048576 ≡ true = lt-ltb _ _ within in rw (below, other) refl
mark_refused p FirstDash line at b text within other = let below : ltb at 1048576 ≡ true = lt-ltb _ _ within in rw (below, other) refl
mark_refused p SecondDash line at b text within other = let below : ltb at 1048576 ≡ true = lt-ltb _ _ within in rw (below, other) refl
mark_refused p LineLetter line at b text within other = let below : ltb at 1048576 ≡ true = lt-ltb _ _ within in rw (below, other) refl
mark_refused p LineBlank line at b text within other = let below : ltb at 1048576 ≡ true = lt-ltb _ _ within in rw (below, other) refl

pub mark_leads : (r : Begun) (m : Mark) (b : ℕ) (result : Result Field PackFault) → result ≡ (if b == mark_byte m then Ok (after_mark m) else Err (BadHeader r.line))
    → Leads r r (fields.Mark m) b result
mark_leads r m b result is = elim (cases_Bool (eqb b (mark_byte m))) [
  | inl same ↦
      let byte : b ≡ mark_byte m = eqb-true b (mark_byte m) same in
      let to : result ≡ Ok (after_mark m) = is ∙ rw same refl in
      rw (to, byte) (λ at text within. mark_taken (progress r) m r.line at text within)
  | inr other ↦
      let to : result ≡ Err (BadHeader r.line) = is ∙ rw other refl in
      rw to (λ at text within. inr (sym (mark_refused (progress r) m r.line at b text within other)))
]

-- the state after a byte that ends a line, and after another
pub after_newline : (p : Progress) (f : Field) (line b at next : ℕ) (text : List ℕ) → b ≡ 10 → next ≡ at + 1
    → from_field p f (line_after line b (at + 1)) (at + 1) text ≡ from_field p f next next text
after_newline p f line b at next text is next-is = rw (is, next-is) refl

pub after_other : (p : Progress) (f : Field) (line b at new_line next : ℕ) (text : List ℕ) → (b ≡ 10 → ⊥) → new_line ≡ line → next ≡ at + 1
    → from_field p f (line_after line b (at + 1)) (at + 1) text ≡ from_field p f new_line next text
after_other p f line b at new_line next text other line-is next-is =
    let apart : eqb b 10 ≡ false = false_from_ne_true (eqb b 10) (λ same. other (eqb-true b 10 same)) in
    rw (apart, line-is, next-is) refl

-- a piece, cut at a byte
cut_piece : (piece text : List ℕ) (used : ℕ) → used < length piece → piece ++ text ≡ take used piece ++ (get_or piece used 0 ∷ (drop (used + 1) piece ++ text))
cut_piece piece text used within =
    let tail : drop used piece ≡ get_or piece used 0 ∷ drop (used + 1) piece = rw (add-one) (drop-cons piece used 0 within) in
    ap (λ (x : List ℕ). x ++ text) (sym (take-append-drop used piece)) ∙ append_assoc (take used piece) (drop used piece) text ∙ ap (λ (x : List ℕ). take used piece ++ (x ++ text)) tail

pub fault_in_piece : (old mid : Begun) (piece : List ℕ) (used : ℕ) (e : PackFault) → used < length piece → Takes old mid (take used piece) (Ok tt)
    → ((text : List ℕ) → Faults e (header_on mid (get_or piece used 0 ∷ text))) → (text : List ℕ) → Faults e (header_on old (piece ++ text))
fault_in_piece old mid piece used e within takes faults text =
    subst (λ (x : Result Header PackFault). Faults e x) (sym (ap (header_on old) (cut_piece piece text used within) ∙ takes (get_or piece used 0 ∷ (drop (used + 1) piece ++ text))))
    (faults (drop (used + 1) piece ++ text))
