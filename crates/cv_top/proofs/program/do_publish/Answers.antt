use Rattle.std.proofs.Common.{refl, ap, sym, ◌∙◌, inl, inr}
use Rattle.cv_client.proofs.Lemmas.{asks_none}
use Rattle.cv_keys.specs.KeysText.{keys_of}
use Rattle.cv_top.specs.SealedInner.{faulty, unread, keyed}
use Rattle.cv_top.proofs.KeyFaults.{fault_or_memory}
use Rattle.cv_top.proofs.program.do_publish.Goals as goal

pub returns-in-Ok-clause-does : goal.returns-in-Ok-clause-does
returns-in-Ok-clause-does g c = keyed _ c.publish_sealed.result (ap keys_of (sym c.as_bytes.ensures.value) ∙ sym c.in-Ok.ensures) c.publish_sealed.ensures.does

pub returns-in-Err-clause-does : goal.returns-in-Err-clause-does
returns-in-Err-clause-does g c =
    elim (fault_or_memory c.in-Err.fault _ c.in-Err.ensures) [
      | inl both ↦ rw (c.of_keys.ensures ∙ both.1) (faulty (record { fault = c.in-Err.fault; is = ap keys_of (sym c.as_bytes.ensures.value) ∙ both.0 }) (refl, refl, refl, refl))
      | inr lacks ↦ rw (c.of_keys.ensures ∙ lacks) (unread (refl, refl, refl, refl))
    ]

pub returns-in-Err-clause-asks : goal.returns-in-Err-clause-asks
returns-in-Err-clause-asks g c = asks_none
