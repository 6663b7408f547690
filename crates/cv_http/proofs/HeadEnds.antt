-- Where no head is yet.
use Rattle.std.proofs.Common.{◌≡◌, ◌<◌, ◌≤◌, ◌+◌, ◌-◌, ◌++◌, ◌∷◌, ◌||◌, nat_le, ℕ, List, [], length, take, drop, Bool, true, false, refl, ap, sym, subst, ◌∙◌, append_assoc, length-append, arith, inl, inr}
use Rattle.std.proofs.lemmas.Bool.{cases_lt, le-leb, or_parts}
use Rattle.std.proofs.lemmas.List.{take_all, take-append-le, take-append-drop, drop-append-le, take_at}
use Rattle.std.proofs.Math.Bool.{or-true}
use Rattle.httparse.specs.Grammar.{LineEnd, crlf, lf, print_end}
use Rattle.cv_http.specs.Forms.{Form, HasNone, UnfinishedAs, AwaitedAs}
use Rattle.cv_http.specs.FormsInner.{EndsEmpty}
use Rattle.cv_http.specs.HeadEndsInner.{closes, after, has_empty_line, may_end, NoneWithin}
use Rattle.cv_http.specs.declared.head_end.Line.{Line}
use Rattle.cv_http.specs.declared.head_end.Line.TheVariants.{Empty, Returned, Text}
use Rattle.cv_http.specs.declared.judge.TheConstants.{HEAD_LIMIT}

-- ---- an empty line is found

closing : (line : Line) (e : LineEnd) (later : List ℕ) → has_empty_line line (10 ∷ (print_end e ++ later)) ≡ true
closing Empty e later = refl
closing Returned e later = refl
closing Text crlf later = refl
closing Text lf later = refl

found : (line : Line) (front : List ℕ) (e : LineEnd) (later : List ℕ) → has_empty_line line (front ++ 10 ∷ (print_end e ++ later)) ≡ true
found line [] e later = closing line e later
found line (b ∷ front) e later = ap (λ (t : Bool). closes line b || t) (found (after line b) front e later) ∙ or-true (closes line b)

-- ---- what is known of the bytes held

end_size : (e : LineEnd) → (1 ≤ length (print_end e)) × (length (print_end e) ≤ 2)
end_size crlf = (omega arith, omega arith)
end_size lf = (omega arith, omega arith)

head_size : (text : List ℕ) (is : EndsEmpty text) → length text ≡ length is.0 + 1 + length (print_end is.1)
head_size text is = ap length is.2 ∙ length-append is.0 (10 ∷ print_end is.1) ∙ omega arith

module _ {P H : Type 0} (form : Form P H) (ends : (head : P) → EndsEmpty (form.print head)) where
  -- a head has bytes
  pub none_yet : (held : List ℕ) → NoneWithin form 0 held
  none_yet held = λ h later reads. let size = head_size (form.print h) (ends h) in omega (arith, size)

  -- no head begins with the bytes
  pub none_at_all : {held : List ℕ} (seen : ℕ) → HasNone form held → NoneWithin form seen held
  none_at_all seen none = λ h later reads. absurd (none h later reads)

  -- more bytes are held
  pub none_on : (seen : ℕ) (held held' got : List ℕ) → held' ≡ held ++ got → seen ≤ length held → NoneWithin form seen held → NoneWithin form seen held'
  none_on seen held held' got is within none = λ h later reads. elim (cases_lt seen (length (form.print h))) [
    | inl below ↦ below
    | inr above ↦
        let n : ℕ = length (form.print h) in
        let short : n ≤ length held = omega (arith, above, within) in
        let front : take n held ≡ form.print h =
        sym (take-append-le n held got short) ∙ ap (take n) (sym is ∙ reads.1) ∙ take_at (form.print h) later n refl in
        none h (drop n held) (reads.0, sym (take-append-drop n held) ∙ ap (λ l. l ++ drop n held) front)
  ]

  -- no head may end behind the bytes that were seen: none is there
  pub none_there : (seen : ℕ) (held : List ℕ) → NoneWithin form seen held → may_end seen held ≡ false → AwaitedAs form held
  none_there seen held none stops =
      let parts = or_parts (nat_le HEAD_LIMIT (length held)) (has_empty_line Text (drop (seen - 2) held)) stops in
      record {
        short = elim (cases_lt (length held) HEAD_LIMIT) [
          | inl below ↦ below
          | inr above ↦ let long : true ≡ false = sym (le-leb HEAD_LIMIT (length held) above) ∙ parts.0 in cc
        ];
        none = λ h later reads.
            let e = ends h in
            let size = head_size (form.print h) e in
            let last = end_size e.1 in
            let more = none h later reads in
            let room : seen - 2 ≤ length e.0 = omega (arith, size, last.0, last.1, more) in
            let split : held ≡ e.0 ++ 10 ∷ (print_end e.1 ++ later) = reads.1 ∙ ap (λ l. l ++ later) e.2 ∙ append_assoc e.0 (10 ∷ print_end e.1) later in
            let there : has_empty_line Text (drop (seen - 2) held) ≡ true =
            ap (λ l. has_empty_line Text (drop (seen - 2) l)) split
            ∙ ap (has_empty_line Text) (drop-append-le (seen - 2) e.0 (10 ∷ (print_end e.1 ++ later)) room)
            ∙ found Text (drop (seen - 2) e.0) e.1 later in
            let both : true ≡ false = sym there ∙ parts.1 in
            cc;
      }

-- bytes that begin no head, and have room for more of one
pub awaited : {P H : Type 0} (form : Form P H) (held : List ℕ) → length held < HEAD_LIMIT → UnfinishedAs form held → AwaitedAs form held
awaited form held short u = record { short = short; none = subst (HasNone form) (take_all HEAD_LIMIT held (omega (arith, short))) u.not_yet }
