-- The vault's faults among those of the line.
use Rattle.cv_vault.specs.declared.vault.VaultFault.{VaultFault}
use Rattle.cv_vault.specs.declared.vault.VaultFault.TheVariants as vault
use Rattle.cv_objects.specs.declared.store_fault.StoreFault.{StoreFault}
use Rattle.cv_objects.specs.declared.store_fault.StoreFault.TheVariants as store
use Rattle.cv_swap.specs.declared.init_fault.InitFault.{InitFault}
use Rattle.cv_swap.specs.declared.init_fault.InitFault.TheVariants as init_fault
use Rattle.cv_swap.specs.declared.open_fault.OpenFault.{OpenFault}
use Rattle.cv_swap.specs.declared.open_fault.OpenFault.TheVariants as open_fault

abbrev pub open_fault_of : VaultFault → OpenFault
open_fault_of vault.Failed = open_fault.Failed
open_fault_of vault.NoMemory = open_fault.NoMemory

-- the store's faults among those of making a repository
abbrev pub init_fault_of : StoreFault → InitFault
init_fault_of (store.Collision id) = init_fault.Collision id
init_fault_of store.Failed = init_fault.Failed
init_fault_of (store.Damaged id found) = init_fault.Damaged id found
init_fault_of store.NoMemory = init_fault.NoMemory

-- and the vault's
abbrev pub init_fault_in : VaultFault → InitFault
init_fault_in vault.Failed = init_fault.Failed
init_fault_in vault.NoMemory = init_fault.NoMemory
