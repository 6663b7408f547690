use Rattle.std.proofs.Common.{refl, ap, ◌∙◌, Err}
use Rattle.cv_top.specs.SealedInner.{empty, unbegun, begun}
use Rattle.cv_top.proofs.program.do_init.Goals as goal

pub returns-in-Ok-clause-does : goal.returns-in-Ok-clause-does
returns-in-Ok-clause-does g c = begun c.init.result.0 c.in-Ok.ensures.signer.1 (rw c.in-Ok.ensures.signer.0 at c.init.ensures.inits)

pub returns-in-Err-Empty-clause-does : goal.returns-in-Err-Empty-clause-does
returns-in-Err-Empty-clause-does g c = empty (c.read_seal.ensures.empty (c.in-Err-Empty.is ∙ ap (λ fault. Err fault) c.in-Err-Empty.field-0-is)) (refl, refl, refl)

pub returns-in-Err-NoMemory-clause-does : goal.returns-in-Err-NoMemory-clause-does
returns-in-Err-NoMemory-clause-does g c = unbegun (refl, refl, refl)
