-- What bringing one file whole to its name does.
use Rattle.std.specs.Prelude.{◌≡◌, ◌≢◌, ℕ, Bool, true, false, List}
use Rattle.std.specs.declared.option.Option.TheVariants.{None, Some}
use Rattle.std.specs.declared.result.Result.{Result}
use Rattle.std.specs.declared.result.Result.TheVariants.{Ok, Err}
use Rattle.cv_vault.specs.Names.{Name, on_way}
use Rattle.cv_vault.specs.Disk.{Disk, IsCalm, Settled, slot}
use Rattle.cv_vault.specs.Walks.{Gains, Nothing}
use Rattle.cv_vault.specs.declared.vault.VaultFault.{VaultFault}
use Rattle.cv_vault.specs.declared.vault.VaultFault.TheVariants.{Failed, NoMemory}

-- all is settled, and the file stands under the name
pub record IsSure (name : Name) (bytes : List ℕ) (d : Disk) : Type 0 where
  pub calm : IsCalm d
  pub there : (d name).now ≡ Some bytes

-- a file that is put on its way; after want of memory nothing changed
abbrev pub PutOnWay : Disk → Name → List ℕ → {X : Type 0} → Result X VaultFault → Disk → Type 0
PutOnWay d way bytes (Ok x) d' = IsSure way bytes d'
PutOnWay d way bytes (Err Failed) d' = Unit {0}
PutOnWay d way bytes (Err NoMemory) d' = d' ≡ d

-- a file is settled on its way to a name, and what stands there is settled too
pub record IsWaiting (way name : Name) (bytes : List ℕ) (d : Disk) : Type 0 where
  pub on_its_way : d way ≡ slot (Some bytes) Settled
  pub at_name : (d name).mark ≡ Settled

-- it came from its way to the name, and every other name is as it was
pub record IsBrought (way name : Name) (bytes : List ℕ) (d d' : Disk) : Type 0 where
  pub there : (d' name).now ≡ Some bytes
  pub gone : (d' way).now ≡ None
  pub others : (n : Name) → n ≢ way → n ≢ name → d' n ≡ d n

-- what bringing it leaves; after want of memory nothing changed
abbrev pub Came : Disk → Name → Name → List ℕ → {X : Type 0} → Result X VaultFault → Disk → Type 0
Came d way name bytes (Ok x) d' = IsBrought way name bytes d d'
Came d way name bytes (Err Failed) d' = Unit {0}
Came d way name bytes (Err NoMemory) d' = d' ≡ d

-- a file that is brought from its way to its name, and settled; after want of memory nothing changed
abbrev pub MovedIn : Disk → Name → List ℕ → {X : Type 0} → Result X VaultFault → Disk → Type 0
MovedIn d name bytes (Ok x) d' = IsSure name bytes d'
MovedIn d name bytes (Err Failed) d' = Unit {0}
MovedIn d name bytes (Err NoMemory) d' = d' ≡ d

-- both; after want of memory nothing came to the name
abbrev pub Replaced : Disk → Name → List ℕ → {X : Type 0} → Result X VaultFault → Disk → Type 0
Replaced d name bytes (Ok x) d' = IsSure name bytes d'
Replaced d name bytes (Err Failed) d' = Unit {0}
Replaced d name bytes (Err NoMemory) d' = Gains on_way Nothing d d'

-- all is settled, and the file under the name is another, or none
pub record IsOther (name : Name) (bytes : List ℕ) (d : Disk) : Type 0 where
  pub calm : IsCalm d
  pub other : (d name).now ≢ Some bytes

-- whether the file stands under the name for sure
abbrev pub Found : Name → List ℕ → Result Bool VaultFault → Disk → Type 0
Found name bytes (Ok true) d' = IsSure name bytes d'
Found name bytes (Ok false) d' = IsOther name bytes d'
Found name bytes (Err e) d' = Unit {0}
