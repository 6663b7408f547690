-- A command judges its keys and the seal before it touches anything. What only this crate's own functions say.
use Rattle.std.specs.Prelude.{◌≡◌, ◌≢◌, ℕ, List, []}
use Rattle.std.specs.declared.result.Result.TheVariants.{Ok}
use Rattle.cv_keys.specs.KeysText.{keys_of}
use Rattle.cv_keys.specs.declared.key.Key.{Key}
use Rattle.cv_top.specs.declared.status.Status.{Status}
use Rattle.cv_top.specs.declared.status.Status.TheVariants.{BadKeys, OutOfMemory}
use Rattle.cv_top.specs.Sealed.{HasFault}

-- what it does under a seal that isn't empty; or nothing was touched
pub data Sealed (seal : List ℕ) (Untouched : Type 0) (Does : Status → Type 0) : Status → Type 0 where
  empty : seal ≡ [] → Untouched → Sealed seal Untouched Does BadKeys
  unbegun : Untouched → Sealed seal Untouched Does OutOfMemory
  begun : (status : Status) → seal ≢ [] → Does status → Sealed seal Untouched Does status

-- what it does under keys without a fault; or nothing was touched
pub data Keyed (keys seal : List ℕ) (Untouched : Type 0) (Does : List Key → Status → Type 0) : Status → Type 0 where
  faulty : HasFault keys → Untouched → Keyed keys seal Untouched Does BadKeys
  unread : Untouched → Keyed keys seal Untouched Does OutOfMemory
  keyed : (table : List Key) (status : Status) → keys_of keys ≡ Ok table → Sealed seal Untouched (Does table) status → Keyed keys seal Untouched Does status
