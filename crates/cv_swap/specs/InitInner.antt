-- Making a repository: its first revision. What only this crate's own functions say.
use Rattle.std.specs.Prelude.{◌≡◌, ◌≢◌, Bool, true, false, None}
use Rattle.std.specs.declared.result.Result.{Result}
use Rattle.std.specs.declared.result.Result.TheVariants.{Ok, Err}
use Rattle.cv_vault.specs.declared.vault.VaultFault.{VaultFault}
use Rattle.cv_vault.specs.Disk.{Disk}
use Rattle.cv_swap.specs.Stands.{head_name}

-- whether there is a manifest
abbrev pub HasHead : Result Bool VaultFault → Disk → Type 0
HasHead (Ok true) d = (d head_name).now ≢ None
HasHead (Ok false) d = (d head_name).now ≡ None
HasHead (Err fault) d = Unit {0}
