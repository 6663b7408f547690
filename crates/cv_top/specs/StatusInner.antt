-- How the program ends: its exit status, and the line on standard error. What only this crate's own functions say.
use Rattle.cv_keys.specs.declared.key_fault.KeyFault.{KeyFault}
use Rattle.cv_keys.specs.declared.key_fault.KeyFault.TheVariants as key_fault
use Rattle.cv_top.specs.declared.status.Status.{Status}
use Rattle.cv_top.specs.declared.status.Status.TheVariants.{BadKeys, OutOfMemory}

-- ---- how the program ends by what a command came to

-- by a fault of the keys text
abbrev pub keys_status : KeyFault → Status
keys_status key_fault.NoMemory = OutOfMemory
keys_status other = BadKeys
