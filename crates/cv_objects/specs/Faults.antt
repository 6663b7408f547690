-- The vault's faults among those of the store.
use Rattle.cv_vault.specs.declared.vault.VaultFault.{VaultFault}
use Rattle.cv_vault.specs.declared.vault.VaultFault.TheVariants as vault
use Rattle.cv_objects.specs.declared.store_fault.StoreFault.{StoreFault}
use Rattle.cv_objects.specs.declared.store_fault.StoreFault.TheVariants.{Failed, NoMemory}

abbrev pub fault_of : VaultFault → StoreFault
fault_of vault.Failed = Failed
fault_of vault.NoMemory = NoMemory
