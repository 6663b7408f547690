-- What a vault in memory holds, and what it stands for.
use Rattle.std.specs.Prelude.{◌*◌, length, ◌+◌, ◌≤◌, map}
use Rattle.cv_vault.specs.Events.{NamedSlot}
use Rattle.cv_vault.specs.Failures.{later_failures}
use Rattle.cv_vault.specs.Table.{entries_of, past_of}
use Rattle.cv_vault.specs.Memory.{Memory, needs}
use Rattle.cv_vault.specs.declared.memory_vault.MemoryVault.TheInside.{Inside}

abbrev pub memory_of : Inside → Memory
memory_of v = record {
  first = map (λ (e : NamedSlot). (e.name, e.first)) (entries_of v.table);
  past = past_of v.table;
  failing = v.schedule.failing.items;
  calls = v.schedule.calls;
  faults = v.schedule.faults;
}

-- there is room for what is owed, and that is what is needed at least. After a crash, which may leave a file at every name, it is enough as well
pub record IsMemory (v : Inside) : Type 0 where
  pub room : length v.table.changes + v.owed ≤ v.table.room
  pub enough : needs (entries_of v.table) v.schedule.failing.items v.schedule.calls ≤ v.owed
  pub enough_after : 2 * length v.table.entries + 2 * later_failures v.schedule.failing.items v.schedule.calls ≤ length v.table.changes + v.owed
