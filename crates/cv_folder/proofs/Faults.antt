-- What the faults of a vault tell.
use Rattle.std.proofs.Common.{◌≡◌, refl}
use Rattle.std.specs.Prelude.{◌↔◌}
use Rattle.std.specs.declared.io.Error.{Error}
use Rattle.cv_vault.specs.declared.vault.VaultFault.{VaultFault}
use Rattle.cv_vault.specs.declared.vault.VaultFault.TheVariants.{Failed, NoMemory}
use Rattle.cv_system.specs.Calls.{Cause, IsWant, cause_of}
use Rattle.cv_folder.specs.Causes.{IsToldBy, Tells}

module _ (Fails : Cause → Type 0) (fault : VaultFault) (error : Error) (memory : (fault ≡ NoMemory) ↔ IsWant (cause_of error)) where
  told_by : (other : VaultFault) → fault ≡ other → IsToldBy other (cause_of error)
  told_by Failed is = λ want. let told : fault ≡ NoMemory = memory.1 want in cc
  told_by NoMemory is = memory.0 is

  pub told_so : Fails (cause_of error) → Tells fault Fails
  told_so fails = (cause_of error, told_by fault refl, fails)
