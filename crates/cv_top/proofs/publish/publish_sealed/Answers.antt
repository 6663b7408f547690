use Rattle.std.proofs.Common.{refl, ap, ◌∙◌, Err}
use Rattle.cv_client.proofs.Lemmas.{asks_none}
use Rattle.cv_top.specs.SealedInner.{empty, unbegun, begun}
use Rattle.cv_top.proofs.publish.publish_sealed.Goals as goal

pub returns-in-Ok-clause-does : goal.returns-in-Ok-clause-does
returns-in-Ok-clause-does g c = begun c.publish.result c.in-Ok.ensures.signer.1 (rw (c.in-Ok.ensures.signer.0, c.as_str.ensures) at c.publish.ensures.publishes)

pub returns-in-Err-Empty-clause-does : goal.returns-in-Err-Empty-clause-does
returns-in-Err-Empty-clause-does g c = empty (c.read_seal.ensures.empty (c.in-Err-Empty.is ∙ ap (λ fault. Err fault) c.in-Err-Empty.field-0-is)) (refl, refl, refl, refl)

pub returns-clause-does : goal.returns-clause-does
returns-clause-does g c = unbegun (refl, refl, refl, refl)

pub returns-in-Err-Empty-clause-asks : goal.returns-in-Err-Empty-clause-asks
returns-in-Err-Empty-clause-asks g c = asks_none

pub returns-clause-asks : goal.returns-clause-asks
returns-clause-asks g c = asks_none
