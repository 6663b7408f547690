-- A vault in memory, as contracts see it.
use Rattle.std.specs.Prelude.{◌≡◌, ℕ, ◌+◌, ◌*◌, ◌<◌, List, ◌∷◌, ◌++◌, [], length, min, nat_lt, if◌then◌else◌}
use Rattle.std.specs.declared.option.Option.{Option}
use Rattle.std.specs.declared.option.Option.TheVariants.{Some, None}
use Rattle.std.specs.declared.result.Result.{Result}
use Rattle.std.specs.declared.result.Result.TheVariants.{Ok, Err}
use Rattle.cv_base.specs.Counts.{last_count, raised}
use Rattle.cv_vault.specs.Names.{Name}
use Rattle.cv_vault.specs.Disk.{File, Files, Disk, settled}
use Rattle.cv_vault.specs.Events.{NamedSlot, Event, IfDiffers, LeftBy, after, replay, value_at, file_count, any_unsettled}
use Rattle.cv_vault.specs.Moments.{Calls}
use Rattle.cv_vault.specs.Failures.{times_next, later_failures}
use Rattle.cv_vault.specs.declared.vault.VaultFault.{VaultFault}
use Rattle.cv_vault.specs.declared.vault.VaultFault.TheVariants.{Failed}

-- the files when the record of changes began, the changes since then, the numbers of the calls that are to fail, how many
-- calls there were, and how many of them failed
pub record Memory : Type 0 where
  pub first : List (Name × File)
  pub past : List Event
  pub failing : List ℕ
  pub calls : ℕ
  pub faults : ℕ

abbrev pub began : Memory → Disk
began v = settled (value_at None v.first)

-- the disk of a vault in memory
abbrev pub memory_disk : Memory → Disk
memory_disk v = replay v.past (began v)

abbrev pub memory_told : Memory → Option Disk
memory_told v = Some (memory_disk v)

abbrev pub memory_count : Memory → ℕ
memory_count v = length v.past

abbrev pub memory_left : Memory → ℕ → Files → Type 0
memory_left v m f = LeftBy v.past (began v) m f

-- the call of a vault in memory, as that of any vault
abbrev pub MemoryCalls : (Disk → Disk → Type 0) → Memory → Memory → Type 0
MemoryCalls R v v' = Calls memory_told memory_count memory_left R v v'

-- how often the number of the next call stands among those that are to fail
abbrev pub times : Memory → ℕ
times v = times_next v.failing v.calls

-- nothing changed but the numbering of the calls
pub record Kept (v v' : Memory) : Type 0 where
  pub first : began v' ≡ began v
  pub past : v'.past ≡ v.past

-- one change was made
pub record Changed (e : Event) (v v' : Memory) : Type 0 where
  pub first : began v' ≡ began v
  pub past : v'.past ≡ v.past ++ e ∷ []

-- the change was made: the record has it where a name or its state is another by it, and else nothing is added
abbrev pub Makes : Event → Memory → Memory → Type 0
Makes e v v' = IfDiffers (memory_disk v) (after e (memory_disk v)) (Changed e v v') (Kept v v')

-- the count of changes rose by one exactly where a name or its state is another after the call, and else nothing is added
abbrev pub Counted : Memory → Memory → Type 0
Counted v v' = IfDiffers (memory_disk v) (memory_disk v') (memory_count v' ≡ memory_count v + 1) (Kept v v')

-- the call has the next number. It answers Failed only where that number is to fail, and doesn't answer Ok where it is
pub record Numbered {X : Type 0} (v v' : Memory) (r : Result X VaultFault) : Type 0 where
  pub failing : v'.failing ≡ v.failing
  pub calls : v'.calls ≡ raised v.calls
  pub faults : v'.faults ≡ (if nat_lt 0 (times v) then min (v.faults + 1) last_count else v.faults)
  pub failed : r ≡ Err Failed → 0 < times v
  pub fails : (x : X) → r ≡ Ok x → times v ≡ 0

-- what is kept free in the record of changes: a removal and a sync for each file, a sync where a name isn't settled, and a change and a sync
-- for each failure to come
abbrev pub needs : List NamedSlot → List ℕ → ℕ → ℕ
needs es failing calls = 2 * file_count es + (if any_unsettled es then 1 else 0) + 2 * later_failures failing calls
