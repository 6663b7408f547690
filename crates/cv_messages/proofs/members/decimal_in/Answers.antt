use Rattle.std.proofs.Common.{◌∙◌, sym, ap, arith}
use Rattle.cv_messages.specs.Spelling.{decimal_of}
use Rattle.cv_messages.proofs.Spellings.{decimal_of-decimal}
use Rattle.cv_messages.proofs.members.decimal_in.Goals as goal

pub returns-in-Some : goal.returns-in-Some
returns-in-Some c =
    sym (ap decimal_of (sym c.as_bytes.ensures.value ∙ c.in-Some.ensures.value) ∙ decimal_of-decimal c.in-Some.number (omega arith))
