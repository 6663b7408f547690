use Rattle.std.proofs.Common.{◌≡◌, Ok, ◌∙◌, rules}
use Rattle.hex.specs.Hex.{decode_sized}
use Rattle.hex.proofs.HexLemmas.{decode_sized-encode_lower}
use Rattle.cv_base.proofs.digest.read_digest.Goals as goal

pub returns-in_default-clause-found : goal.returns-in_default-clause-found
returns-in_default-clause-found c = λ hash is text.
    let sized = decode_sized-encode_lower hash 20 is.size is.bytes in
    absurd (c.in_default.not-Ok hash (c.from_hex.ensures ∙ rw text sized))

pub returns-then-eq-clause-found : goal.returns-then-eq-clause-found
returns-then-eq-clause-found c = λ hash is text.
    let sized = decode_sized-encode_lower hash 20 is.size is.bytes in
    let read : decode_sized c.args.text.now 20 ≡ Ok hash = rw text sized in
    search (rules, read)

pub returns-else-eq-clause-found : goal.returns-else-eq-clause-found
returns-else-eq-clause-found c = λ hash is text.
    let sized = decode_sized-encode_lower hash 20 is.size is.bytes in
    let read : decode_sized c.args.text.now 20 ≡ Ok hash = rw text sized in
    search (rules, read)
