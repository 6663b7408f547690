use Rattle.std.proofs.Common.{arith, ◌∙◌, rules}
use Rattle.cv_manifest.proofs.Splits.{digest_size, digest_parts}
use Rattle.cv_manifest.proofs.parts.split_digest.Goals as goal

pub returns-then-bytes-lt-DIGEST_DIGITS : goal.returns-then-bytes-lt-DIGEST_DIGITS
returns-then-bytes-lt-DIGEST_DIGITS c = λ stated rest begins. omega (arith, digest_size _ _ _ begins)

pub returns-in_err-newline : goal.returns-in_err-newline
returns-in_err-newline c = rw c.from_residual.ensures (λ stated rest begins.
    let parts = digest_parts _ _ _ begins in
    let size = digest_size _ _ _ begins in
    search (rules, size))

pub returns-then-newline-ne10 : goal.returns-then-newline-ne10
returns-then-newline-ne10 c = λ stated rest begins.
    let parts = digest_parts _ _ _ begins in
    let same = c.split_at.ensures.back ∙ parts.1 in
    search rules

pub returns-in_err-stated : goal.returns-in_err-stated
returns-in_err-stated c = rw c.from_residual-in_err-stated.ensures (λ stated rest begins.
    let parts = digest_parts _ _ _ begins in
    let some = c.read_digest.ensures.found stated begins.digest (c.split_at.ensures.front ∙ parts.0) in
    let none = c.in_err-stated.was in
    cc)
