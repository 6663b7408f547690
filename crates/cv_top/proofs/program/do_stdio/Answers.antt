use Rattle.std.proofs.Common.{refl, ap, ◌∙◌, Err}
use Rattle.cv_top.specs.SealedInner.{empty, unbegun, begun}
use Rattle.cv_top.proofs.program.do_stdio.Goals as goal

pub returns-in-Err-Empty-clause-does : goal.returns-in-Err-Empty-clause-does
returns-in-Err-Empty-clause-does g c = empty (c.read.ensures.empty (c.in-Err-Empty.is ∙ ap (λ fault. Err fault) c.in-Err-Empty.field-0-is)) (refl, refl, refl, refl)

pub returns-in-Err-NoMemory-clause-does : goal.returns-in-Err-NoMemory-clause-does
returns-in-Err-NoMemory-clause-does g c = unbegun (refl, refl, refl, refl)

pub returns-in_default-clause-does : goal.returns-in_default-clause-does
returns-in_default-clause-does g c = unbegun (refl, refl, refl, refl)

pub returns-clause-does : goal.returns-clause-does
returns-clause-does g c =
    begun c.serve.result.0 c.in-Ok.ensures.identity.2 (rw (c.in-Ok.ensures.identity.0, c.in-Ok.ensures.identity.1) at c.serve.ensures.serves)
