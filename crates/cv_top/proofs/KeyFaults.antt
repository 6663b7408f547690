-- Faults of the keys text.
use Rattle.std.proofs.Common.{◌≡◌, Result, Err, refl, sym, ap, inl, inr}
use Rattle.std.specs.Prelude.{◌⊎◌}
use Rattle.cv_base.specs.Unless.{IsUnless}
use Rattle.cv_keys.specs.declared.key_fault.KeyFault.{KeyFault}
use Rattle.cv_keys.specs.declared.key_fault.KeyFault.TheVariants as fault
use Rattle.cv_top.specs.StatusInner.{keys_status}
use Rattle.cv_top.specs.declared.status.Status.TheVariants.{BadKeys, OutOfMemory}

status_or_memory : (f : KeyFault) → (keys_status f ≡ BadKeys) ⊎ (keys_status f ≡ OutOfMemory)
status_or_memory fault.NoMemory = inr refl
status_or_memory other = inl refl

-- the text has the fault, or memory was wanted
pub fault_or_memory : {A : Type 0} (f : KeyFault) (said : Result A KeyFault) → IsUnless fault.NoMemory (Err f) said
    → ((said ≡ Err f) × (keys_status f ≡ BadKeys)) ⊎ (keys_status f ≡ OutOfMemory)
fault_or_memory f said h = elim h [
  | inl lacking ↦ inr (ap keys_status lacking)
  | inr is ↦ elim (status_or_memory f) [ inl bad ↦ inl (sym is, bad) | inr lacks ↦ inr lacks ]
]
