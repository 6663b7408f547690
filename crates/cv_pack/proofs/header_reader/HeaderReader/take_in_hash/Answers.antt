use Rattle.std.proofs.Common.{◌≡◌, true, arith, rules}
use Rattle.cv_pack.specs.HeaderState.{after_line, progress}
use Rattle.cv_pack.specs.HeaderReaderInner.{begun_of}
use Rattle.cv_pack.specs.Reading.{is_hash_digit}
use Rattle.cv_pack.proofs.Steps.{hash_more, leads_end}
use Rattle.cv_pack.proofs.header_reader.HeaderReader.take_in_hash.Goals as goal

pub returns-then-len-ge-DIGEST_DIGITS-clause-leads :
    goal.returns-then-len-ge-DIGEST_DIGITS-clause-leads
returns-then-len-ge-DIGEST_DIGITS-clause-leads c =
    rw (← c.self.view_is) (leads_end (begun_of c.self.inside) c.args.byte _ (omega arith) (rw (← c.self.view_is) at c.take_after_hash.ensures.leads))

pub returns-clause-leads : goal.returns-clause-leads
returns-clause-leads c = rw (← c.self.view_is) (λ at text within.
    let digit : is_hash_digit c.args.byte ≡ true = search rules in
    hash_more (after_line (progress (begun_of c.self.inside))) _ _ _ _ at c.args.byte text (omega arith) c.in_ok-push.ensures.items within digit)
