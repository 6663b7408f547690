use Rattle.std.proofs.Common.{rules, sym, ap, ◌∙◌}
use Rattle.cv_messages.specs.Spelling.{digest_of}
use Rattle.cv_messages.proofs.Spellings.{digest_of-encode_lower, digest_of-None}
use Rattle.cv_messages.proofs.members.digest_in.Goals as goal

pub returns-in-Some : goal.returns-in-Some
returns-in-Some c =
    sym (ap digest_of c.in-Some.ensures.value ∙ digest_of-encode_lower c.in-Some.hash (record { size = search rules; bytes = search rules }))

pub returns-in-None : goal.returns-in-None
returns-in-None c =
    sym (digest_of-None c.args.digits.now (λ hash is spelt. let never = c.in-None.ensures.found hash is spelt in cc (never)))
