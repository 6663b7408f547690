use Rattle.std.proofs.Common.{◌≡◌, take, drop, ◌∙◌, sym, arith}
use Rattle.cv_base.proofs.IdTexts.{text_parts, whole_text}
use Rattle.cv_base.proofs.id.ObjectId.read.Goals as goal

pub returns-then-bytes-lt-DIGEST_DIGITS-clause-found :
    goal.returns-then-bytes-lt-DIGEST_DIGITS-clause-found
returns-then-bytes-lt-DIGEST_DIGITS-clause-found c = λ id is text.
    let size = (text_parts _ id is (c.as_bytes-bytes.ensures.value ∙ text)).0 in
    absurd (omega (arith, size))

pub returns-clause-value : goal.returns-clause-value
returns-clause-value c =
    let front : take 40 c.args.text.now ≡ c.split_at.result.0.now = rw (← c.as_bytes-bytes.ensures.value) (sym c.split_at.ensures.front) in
    let back : drop 40 c.args.text.now ≡ c.split_at.result.1.now = rw (← c.as_bytes-bytes.ensures.value) (sym c.split_at.ensures.back) in
    whole_text _ _ (rw (front, back) c.of_parts.ensures.value)

pub returns-clause-found : goal.returns-clause-found
returns-clause-found c = λ id is text.
    let parts = text_parts _ id is (c.as_bytes-bytes.ensures.value ∙ text) in
    c.of_parts.ensures.found id is (c.split_at.ensures.front ∙ parts.1) (c.split_at.ensures.back ∙ parts.2)
