use Rattle.std.proofs.Common.{refl, ap, ◌∙◌, Err}
use Rattle.cv_client.proofs.Lemmas.{asks_none}
use Rattle.cv_top.specs.SealedInner.{empty, unbegun, begun}
use Rattle.cv_top.proofs.program.do_look.Goals as goal

pub returns-in-Ok-clause-does : goal.returns-in-Ok-clause-does
returns-in-Ok-clause-does g c = begun c.look.result c.in-Ok.ensures.signer.1 (rw c.in-Ok.ensures.signer.0 at c.look.ensures.looks)

pub returns-in-Err-Empty-clause-does : goal.returns-in-Err-Empty-clause-does
returns-in-Err-Empty-clause-does g c = empty (c.read_seal.ensures.empty (c.in-Err-Empty.is ∙ ap (λ fault. Err fault) c.in-Err-Empty.field-0-is)) (refl, refl)

pub returns-clause-does : goal.returns-clause-does
returns-clause-does g c = unbegun (refl, refl)

pub returns-in-Ok-clause-answered : goal.returns-in-Ok-clause-answered
returns-in-Ok-clause-answered g c = λ writes links some. (rw c.in-Ok.ensures.signer.0 at c.look.ensures.answered) writes links

pub returns-in-Err-Empty-clause-answered : goal.returns-in-Err-Empty-clause-answered
returns-in-Err-Empty-clause-answered g c = λ writes links some.
    absurd (some (c.read_seal.ensures.empty (c.in-Err-Empty.is ∙ ap (λ fault. Err fault) c.in-Err-Empty.field-0-is)))

pub returns-clause-answered : goal.returns-clause-answered
returns-clause-answered g c = λ writes links some files s t m has. record { so = tt; whole = refl }

pub returns-in-Err-Empty-clause-asks : goal.returns-in-Err-Empty-clause-asks
returns-in-Err-Empty-clause-asks g c = asks_none

pub returns-clause-asks : goal.returns-clause-asks
returns-clause-asks g c = asks_none
