-- The files that a crash leaves by the bits of a pick.
use Rattle.std.specs.Prelude.{◌≡◌, ◌↔◌, ℕ, ◌/◌, ◌%◌, ◌==◌, false, List, [], ◌∷◌, if◌then◌else◌}
use Rattle.std.specs.List.{Contains}
use Rattle.std.specs.List.Sorted.{IsStrictlySortedBy}
use Rattle.std.specs.declared.option.Option.{Option}
use Rattle.std.specs.declared.option.Option.TheVariants.{None, Some}
use Rattle.cv_base.specs.BytesOrder.{bytes_cmp}
use Rattle.cv_vault.specs.Names.{Name, same_name}
use Rattle.cv_vault.specs.Disk.{Disk, File, Files, Slot, Mark, Settled, Torn, Moved, Image, is_settled, settled}

-- the file as it was before: none for a torn name
abbrev pub file_before : File → Mark → File
file_before now Settled = now
file_before now Torn = None
file_before now (Moved before) = before

-- the lowest bit of the pick leaves the name as before where it is 0, and as now where it is 1
abbrev pub left_by : ℕ → Slot → File
left_by pick s = if pick % 2 == 0 then file_before s.now s.mark else s.now

-- the pick goes over these names, and is halved each time
abbrev pub picks : ℕ → List Name → Disk → Files
picks pick [] d n = (d n).now
picks pick (m ∷ ms) d n = if same_name n m then left_by pick (d m) else picks (pick / 2) ms d n

-- what a crash leaves of the disk d by the bits of a pick, which goes over the names that aren't settled in ascending order. All names are settled afterwards
pub record Crashes (pick : ℕ) (d d' : Disk) : Type 0 where
  pub unsettled : List Name
  pub ascending : IsStrictlySortedBy bytes_cmp unsettled
  pub exact : (n : Name) → Contains unsettled n ↔ (is_settled (d n).mark ≡ false)
  pub left : d' ≡ settled (picks pick unsettled d)
  pub image : Image d (picks pick unsettled d)

-- the same where the disk is told
pub record CrashesTo (pick : ℕ) (old new : Option Disk) : Type 0 where
  pub tells : (d : Disk) → old ≡ Some d → (d' : Disk) × (new ≡ Some d') × Crashes pick d d'
  pub silent : old ≡ None → new ≡ None
