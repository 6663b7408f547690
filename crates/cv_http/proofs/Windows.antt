-- What the first 16,384 bytes say holds of all.
use Rattle.std.proofs.Common.{◌≡◌, ◌≤◌, ◌++◌, ℕ, List, length, take, drop, min, ap, sym, subst, ◌∙◌, arith, inl, inr}
use Rattle.std.proofs.lemmas.List.{take-append-drop, drop-append-le, take_all, length-take}
use Rattle.std.proofs.lemmas.Bool.{cases_lt}
use Rattle.cv_http.specs.Forms.{Form, ReadsAs, HasNone, BeginsAs, RefusedAs, window, judged}
use Rattle.cv_http.specs.JudgementsInner.{JudgesWhole, Judges}
use Rattle.cv_http.specs.declared.judge.Judged.{Judged}
use Rattle.cv_http.specs.declared.judge.Judged.TheVariants.{Whole, More, Refused as RefusedBy}
use Rattle.cv_http.specs.declared.judge.TheConstants.{HEAD_LIMIT}
use Rattle.cv_http.proofs.Streams.{begins_on, refused_on}

-- what the code looks at
pub seen_is : (held : List ℕ) (count : ℕ) → count ≡ min (length held) HEAD_LIMIT → take count held ≡ window held
seen_is held count is = elim (cases_lt (length held) HEAD_LIMIT) [
  | inl below ↦ take_all count held (omega (arith, is, below)) ∙ sym (take_all HEAD_LIMIT held (omega (arith, below)))
  | inr above ↦ ap (λ k. take k held) (let e : count ≡ HEAD_LIMIT = omega (arith, is, above) in e)
]

-- bytes within the limit are seen whole
pub all_seen : (bytes : List ℕ) → length bytes ≤ HEAD_LIMIT → bytes ≡ window bytes
all_seen bytes within = sym (take_all HEAD_LIMIT bytes (omega (arith, within)))

module _ {P H : Type 0} (form : Form P H) where
  -- a whole head is judged by its fault, or else by what it says
  pub judged_whole : (bytes : List ℕ) (parsed : P) (size : ℕ) (judgement : Judged H) → length bytes ≤ HEAD_LIMIT → size ≤ length bytes
      → ReadsAs form bytes parsed (drop size bytes) → size ≡ length (form.print parsed)
      → JudgesWhole (form.fault parsed) (form.says parsed) size judgement → Judges form bytes judgement
  judged_whole bytes parsed size (Whole head count) limit within reads long is = (
    omega (arith, is.2, within),
    record {
      parsed = parsed;
      has = record { reads = subst (λ (n : ℕ). ReadsAs form bytes parsed (drop n bytes)) (sym is.2) reads; limit = omega (arith, limit, within, long) };
      faultless = is.0;
      says = is.1;
    },
  )
  judged_whole bytes parsed size More limit within reads long is = absurd is
  judged_whole bytes parsed size (RefusedBy fault) limit within reads long is =
      judged parsed (drop size bytes) fault (record { reads = reads; limit = omega (arith, limit, within, long) }) is

  -- what the first bytes are judged to be, all are
  pub judged_all : (held bytes : List ℕ) (judgement : Judged H) → bytes ≡ window held → Judges form bytes judgement → Judges form held judgement
  judged_all held bytes (Whole head size) seen is =
      let split : bytes ++ drop HEAD_LIMIT held ≡ held = ap (λ b. b ++ drop HEAD_LIMIT held) seen ∙ take-append-drop HEAD_LIMIT held in
      let later : drop size bytes ++ drop HEAD_LIMIT held ≡ drop size held =
      sym (drop-append-le size bytes (drop HEAD_LIMIT held) is.0) ∙ ap (drop size) split in
      let bound : length bytes ≡ min HEAD_LIMIT (length held) = ap length seen ∙ length-take HEAD_LIMIT held in (
        omega (arith, bound, is.0),
        subst (λ (b : List ℕ). BeginsAs form b head (drop size held)) split
            (subst (BeginsAs form (bytes ++ drop HEAD_LIMIT held) head) later (begins_on (drop HEAD_LIMIT held) is.1)),
      )
  judged_all held bytes More seen is =
      let bound : length bytes ≡ min HEAD_LIMIT (length held) = ap length seen ∙ length-take HEAD_LIMIT held in
      let same : window bytes ≡ window held = sym (all_seen bytes (omega (arith, bound))) ∙ seen in
      record { not_yet = subst (HasNone form) same is.not_yet; may = subst form.MayBecome same is.may }
  judged_all held bytes (RefusedBy fault) seen is =
      subst (λ (b : List ℕ). RefusedAs form b fault) (ap (λ b. b ++ drop HEAD_LIMIT held) seen ∙ take-append-drop HEAD_LIMIT held) (refused_on (drop HEAD_LIMIT held) is)
