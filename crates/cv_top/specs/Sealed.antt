-- A command judges its keys and the seal before it touches anything.
use Rattle.std.specs.Prelude.{◌≡◌, ℕ, List}
use Rattle.std.specs.declared.result.Result.TheVariants.{Err}
use Rattle.cv_keys.specs.KeysText.{keys_of}
use Rattle.cv_keys.specs.declared.key_fault.KeyFault.{KeyFault}

-- the keys text has a fault
pub record HasFault (text : List ℕ) : Type 0 where
  pub fault : KeyFault
  pub is : keys_of text ≡ Err fault
