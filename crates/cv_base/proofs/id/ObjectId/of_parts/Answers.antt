use Rattle.cv_base.proofs.IdTexts.{one_id}
use Rattle.cv_base.proofs.id.ObjectId.of_parts.Goals as goal

pub returns-in_err-hash-clause-found : goal.returns-in_err-hash-clause-found
returns-in_err-hash-clause-found c = λ id is digits suffix.
    let some = c.read_digest.ensures.found id.hash is digits in
    let none = c.in_err-hash.was in
    cc

pub returns-in_err-kind-clause-found : goal.returns-in_err-kind-clause-found
returns-in_err-kind-clause-found c = λ id is digits suffix.
    let some = c.of_suffix.ensures.found id.kind suffix in
    let none = c.in_err-kind.was in
    cc

pub returns-clause-found : goal.returns-clause-found
returns-clause-found c = λ id is digits suffix.
    one_id id c.in_ok-hash.was c.in_ok-kind.was (c.read_digest.ensures.found id.hash is digits) (c.of_suffix.ensures.found id.kind suffix)
