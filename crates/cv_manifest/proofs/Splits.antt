-- The parts of a text.
use Rattle.std.proofs.Common.{◌≡◌, ℕ, ◌<◌, List, ◌∷◌, ◌++◌, length, take, drop, codes, refl, sym, ap, ◌∙◌, arith, append_assoc, length-append}
use Rattle.std.proofs.lemmas.List.{take_at, drop_at}
use Rattle.hex.specs.Hex.{encode_lower}
use Rattle.cv_base.proofs.Laws.{length-digits, same_digits}
use Rattle.cv_manifest.specs.Lines.{ended}
use Rattle.cv_manifest.specs.Parts.{Parts, HasParts}
use Rattle.cv_manifest.specs.SplitInner.{EndsAt, BeginsWith, HasNoDigest}
use Rattle.cv_manifest.proofs.Cuts.{one_cut}
use Rattle.cv_manifest.proofs.Endings.{end_line, one_end}
use Rattle.cv_manifest.proofs.Clear.{hash_clear}

-- ---- the line of the digest

pub digest_size : (text stated rest : List ℕ) → BeginsWith text stated rest → 40 < length text
digest_size text stated rest begins =
    omega (arith, ap length begins.text_is, length-append (encode_lower stated) (10 ∷ rest), length-digits stated begins.digest)

pub digest_parts : (text stated rest : List ℕ) → BeginsWith text stated rest → (take 40 text ≡ encode_lower stated) × (drop 40 text ≡ 10 ∷ rest)
digest_parts text stated rest begins = (
  ap (take 40) begins.text_is ∙ take_at (encode_lower stated) (10 ∷ rest) 40 (length-digits stated begins.digest),
  ap (drop 40) begins.text_is ∙ drop_at (encode_lower stated) (10 ∷ rest) 40 (length-digits stated begins.digest),
)

-- ---- all parts

abbrev behind : Parts → List ℕ
behind parts = encode_lower parts.stated ++ 10 ∷ parts.seal

abbrev pub has_end : (text : List ℕ) (parts : Parts) → HasParts text parts → EndsAt text (ended parts.lines) (behind parts)
has_end text parts has = record {
  lines = parts.lines;
  are_lines = has.lines;
  front_is = refl;
  text_is = has.spelled ∙ append_assoc (ended parts.lines ++ codes "--\n") (encode_lower parts.stated) (10 ∷ parts.seal);
}

pub one_front : (text front rest other behind : List ℕ) (a : EndsAt text front rest) (b : EndsAt text other behind) → (a.lines ≡ b.lines) × (rest ≡ behind)
one_front text front rest other behind a b =
    one_end a.lines b.lines rest behind a.are_lines b.are_lines
    (sym (end_line a.lines rest) ∙ sym a.text_is ∙ b.text_is ∙ end_line b.lines behind)

pub no_parts : (text front rest : List ℕ) → EndsAt text front rest → HasNoDigest rest → (parts : Parts) → HasParts text parts → ⊥
no_parts text front rest ends none parts has =
    none parts.stated parts.seal (record { digest = has.digest; text_is = (one_front text front rest _ _ ends (has_end text parts has)).1 })

-- a text has its parts in one way
pub one_parts : (text : List ℕ) (a b : Parts) → HasParts text a → HasParts text b → a ≡ b
one_parts text a b a-has b-has =
    let fronts = one_front text _ _ _ _ (has_end text a a-has) (has_end text b b-has) in
    let cut = one_cut (encode_lower a.stated) (encode_lower b.stated) a.seal b.seal (hash_clear a.stated a-has.digest) (hash_clear b.stated b-has.digest) fronts.1 in
    let of : List (List ℕ) → List ℕ → List ℕ → Parts = λ lines stated seal. record { lines = lines; stated = stated; seal = seal } in
    ap (λ (lines : List (List ℕ)). of lines a.stated a.seal) fronts.0
    ∙ ap (λ (stated : List ℕ). of b.lines stated a.seal) (same_digits a.stated b.stated a-has.digest b-has.digest cut.0)
    ∙ ap (λ (seal : List ℕ). of b.lines b.stated seal) cut.1
