-- The search for the line `--`.
use Rattle.std.proofs.Common.{◌≡◌, ℕ, ◌-◌, ◌+◌, false, List, [], ◌∷◌, ◌++◌, length, take, codes, sym, ap, ◌∙◌, arith, length-append}
use Rattle.std.specs.List.{AllByRecursion}
use Rattle.std.proofs.lemmas.List.{take_at}
use Rattle.cv_base.proofs.Laws.{all_push}
use Rattle.cv_manifest.specs.Lines.{has_newline, ended, IsLine}
use Rattle.cv_manifest.specs.SplitInner.{EndsAt, HasNoEnd}
use Rattle.cv_manifest.proofs.Cuts.{ended-push}
use Rattle.cv_manifest.proofs.Endings.{end_line, no_end}

-- the lines before the rest, none of which is `--`
pub record Before (bytes rest : List ℕ) : Type 0 where
  pub lines : List (List ℕ)
  pub are_lines : AllByRecursion IsLine lines
  pub bytes_are : bytes ≡ ended lines ++ rest

pub before_more : (bytes rest line after : List ℕ) → Before bytes rest → has_newline line ≡ false → rest ≡ line ++ 10 ∷ after
    → (line ≡ codes "--" → ⊥) → Before bytes after
before_more bytes rest line after before whole is other = record {
  lines = before.lines ++ line ∷ [];
  are_lines = all_push IsLine before.lines line before.are_lines (record { whole = whole; not_end = other });
  bytes_are = before.bytes_are ∙ ap (λ (t : List ℕ). ended before.lines ++ t) is ∙ sym (ended-push before.lines line after);
}

pub ends_here : (bytes rest line after : List ℕ) → Before bytes rest → rest ≡ line ++ 10 ∷ after → line ≡ codes "--"
    → EndsAt bytes (take (length bytes - length rest) bytes) after
ends_here bytes rest line after before is end =
    let size : length bytes ≡ length (ended before.lines) + length rest = ap length before.bytes_are ∙ length-append (ended before.lines) rest in
    record {
      lines = before.lines;
      are_lines = before.are_lines;
      front_is = ap (take (length bytes - length rest)) before.bytes_are ∙ take_at (ended before.lines) rest (length bytes - length rest) (omega arith);
      text_is = before.bytes_are ∙ ap (λ (t : List ℕ). ended before.lines ++ t) (is ∙ ap (λ (t : List ℕ). t ++ 10 ∷ after) end) ∙ sym (end_line before.lines after);
    }

pub ends_nowhere : (bytes rest : List ℕ) → Before bytes rest → has_newline rest ≡ false → HasNoEnd bytes
ends_nowhere bytes rest before none = λ front after ends.
    no_end before.lines ends.lines rest after before.are_lines ends.are_lines none (sym before.bytes_are ∙ ends.text_is ∙ end_line ends.lines after)
