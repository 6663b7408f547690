-- What the numbers of a place stand for.
use Rattle.std.specs.Prelude.{ℕ, List, [], slice_index_or}
use Rattle.std.specs.Option.{option_map}
use Rattle.std.specs.declared.option.Option.{Option}
use Rattle.cv_vault.specs.Disk as disk
use Rattle.cv_vault.specs.Disk.{File, Slot, slot}
use Rattle.cv_vault.specs.declared.place.Place.{Place}
use Rattle.cv_vault.specs.declared.place.PlaceMark.{PlaceMark}
use Rattle.cv_vault.specs.declared.place.PlaceMark.TheVariants.{Settled, Torn, Moved}

-- the content with a number
abbrev pub file_in : List (List ℕ) → Option ℕ → File
file_in contents k = option_map (λ i. slice_index_or contents i []) k

abbrev pub mark_in : List (List ℕ) → PlaceMark → disk.Mark
mark_in contents Settled = disk.Settled
mark_in contents Torn = disk.Torn
mark_in contents (Moved before) = disk.Moved (file_in contents before)

abbrev pub slot_in : List (List ℕ) → Place → Slot
slot_in contents p = slot (file_in contents p.now) (mark_in contents p.mark)
