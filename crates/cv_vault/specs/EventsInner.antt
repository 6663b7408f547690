-- A disk in memory: the names that were ever used, and the record of the changes since the record began. What only this crate's own functions say.
use Rattle.std.specs.Prelude.{ℕ, List, map, is_some, if◌then◌else◌}
use Rattle.std.specs.declared.option.Option.TheVariants.{None}
use Rattle.cv_vault.specs.Disk.{Slot, Disk, Settled, slot, settled}
use Rattle.cv_vault.specs.Events.{NamedSlot, value_at}

abbrev pub disk_of : List NamedSlot → Disk
disk_of es = value_at (slot None Settled) (map (λ e. (e.name, e.stands)) es)

-- the disk when the record began
abbrev pub first_disk : List NamedSlot → Disk
first_disk es = settled (value_at None (map (λ e. (e.name, e.first)) es))

-- whether there is a file, as a number
abbrev pub has_file : Slot → ℕ
has_file s = if is_some s.now then 1 else 0
