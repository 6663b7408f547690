use Rattle.std.proofs.Common.{refl}
use Rattle.cv_vault.specs.Disk.{Writes}
use Rattle.cv_vault.specs.MemoryVault.{memory_of}
use Rattle.cv_vault.specs.declared.memory_vault.MemoryVault.TheInside.{Inside}
use Rattle.cv_vault.proofs.Inside.{Wants, wants, kept_same, kept_entries, kept_then, numbered_answer, write_calls, write_failed, write_counted}
use Rattle.cv_vault.proofs.memory_vault.MemoryVaultVault.write.Goals as goal

-- no memory for what is owed
abbrev unowed : goal.After-from_residual → Inside
unowed c = record c.self.inside { schedule = c.next-fate.new.self }

owes : (c : goal.After-from_residual) → Wants {X = Unit {0}} (λ r. Writes c.args.name.now c.args.bytes.now r) (memory_of c.self.inside) (memory_of (unowed c)) c.from_residual.result
owes c =
    let n = c.next-fate.ensures in
    wants _ c.self.inside (unowed c) c.next-fate.result c.from_residual.result (record { fate = n.fate; failing = n.failing; calls = n.calls; faults = n.faults })
    (kept_same c.self.inside (unowed c) refl) c.from_residual.ensures.1 (λ d. refl)

pub returns-in_err-more-clause-call : goal.returns-in_err-more-clause-call
returns-in_err-more-clause-call c = rw (← c.self.view_is) (owes c).call

pub returns-in_err-more-clause-numbered : goal.returns-in_err-more-clause-numbered
returns-in_err-more-clause-numbered c = rw (← c.self.view_is) (owes c).numbered

pub returns-in_err-more-clause-counted : goal.returns-in_err-more-clause-counted
returns-in_err-more-clause-counted c = rw (← c.self.view_is) (owes c).counted

-- no room in the table
abbrev full : goal.After-from_residual-in_err-reserve → Inside
full c = record c.self.inside { table = c.reserve.new.self; schedule = c.next-fate.new.self }

is_full : (c : goal.After-from_residual-in_err-reserve) → Wants {X = Unit {0}} (λ r. Writes c.args.name.now c.args.bytes.now r) (memory_of c.self.inside) (memory_of (full c)) c.from_residual-in_err-reserve.result
is_full c =
    let n = c.next-fate.ensures in
    wants _ c.self.inside (full c) c.next-fate.result c.from_residual-in_err-reserve.result (record { fate = n.fate; failing = n.failing; calls = n.calls; faults = n.faults })
    (kept_entries c.self.inside (full c) c.reserve.ensures.entries c.reserve.ensures.past) c.from_residual-in_err-reserve.ensures.1 (λ d. refl)

pub returns-in_err-reserve-clause-call : goal.returns-in_err-reserve-clause-call
returns-in_err-reserve-clause-call c = rw (← c.self.view_is) (is_full c).call

pub returns-in_err-reserve-clause-numbered : goal.returns-in_err-reserve-clause-numbered
returns-in_err-reserve-clause-numbered c = rw (← c.self.view_is) (is_full c).numbered

pub returns-in_err-reserve-clause-counted : goal.returns-in_err-reserve-clause-counted
returns-in_err-reserve-clause-counted c = rw (← c.self.view_is) (is_full c).counted

-- no memory for the change
abbrev roomy : goal.After-from_residual-in_err-write → Inside
roomy c = record c.self.inside { table = c.reserve.new.self; schedule = c.next-fate.new.self }

abbrev stopped : goal.After-from_residual-in_err-write → Inside
stopped c = record c.self.inside { table = c.write.new.self; schedule = c.next-fate.new.self }

stops : (c : goal.After-from_residual-in_err-write) → Wants {X = Unit {0}} (λ r. Writes c.args.name.now c.args.bytes.now r) (memory_of c.self.inside) (memory_of (stopped c)) c.from_residual-in_err-write.result
stops c =
    let n = c.next-fate.ensures in
    wants _ c.self.inside (stopped c) c.next-fate.result c.from_residual-in_err-write.result (record { fate = n.fate; failing = n.failing; calls = n.calls; faults = n.faults })
    (kept_then c.self.inside (roomy c) (stopped c) (kept_entries c.self.inside (roomy c) c.reserve.ensures.entries c.reserve.ensures.past) c.in_err-write.ensures.err) c.from_residual-in_err-write.ensures.1 (λ d. refl)

pub returns-in_err-write-clause-call : goal.returns-in_err-write-clause-call
returns-in_err-write-clause-call c = rw (← c.self.view_is) (stops c).call

pub returns-in_err-write-clause-numbered : goal.returns-in_err-write-clause-numbered
returns-in_err-write-clause-numbered c = rw (← c.self.view_is) (stops c).numbered

pub returns-in_err-write-clause-counted : goal.returns-in_err-write-clause-counted
returns-in_err-write-clause-counted c = rw (← c.self.view_is) (stops c).counted

pub returns-clause-call : goal.returns-clause-call
returns-clause-call c =
    let roomy : Inside = record c.self.inside { table = c.reserve.new.self; schedule = c.next-fate.new.self } in
    let after : Inside = record roomy { table = c.write.new.self } in
    rw (← c.self.view_is) (write_calls c.self.inside roomy after c.args.name.now c.args.bytes.now c.next-fate.result c.answer.result c.reserve.ensures.table
    (kept_entries c.self.inside roomy c.reserve.ensures.entries c.reserve.ensures.past) c.answer.ensures (rw c.makes.ensures at c.in_ok-write.ensures.ok))

pub returns-clause-numbered : goal.returns-clause-numbered
returns-clause-numbered c =
    let n = c.next-fate.ensures in
    let after : Inside = record c.self.inside { table = c.write.new.self; schedule = c.next-fate.new.self } in
    rw (← c.self.view_is) (numbered_answer c.self.inside after c.next-fate.result _ c.answer.result (record { fate = n.fate; failing = n.failing; calls = n.calls; faults = n.faults }) c.answer.ensures)

pub returns-clause-failed : goal.returns-clause-failed
returns-clause-failed c =
    let n = c.next-fate.ensures in
    let roomy : Inside = record c.self.inside { table = c.reserve.new.self; schedule = c.next-fate.new.self } in
    let after : Inside = record roomy { table = c.write.new.self } in
    rw (← c.self.view_is) (write_failed c.self.inside roomy after c.args.name.now c.args.bytes.now c.next-fate.result c.answer.result c.reserve.ensures.table
    (kept_entries c.self.inside roomy c.reserve.ensures.entries c.reserve.ensures.past) c.answer.ensures (rw c.makes.ensures at c.in_ok-write.ensures.ok) (record { fate = n.fate; failing = n.failing; calls = n.calls; faults = n.faults }))

pub returns-clause-counted : goal.returns-clause-counted
returns-clause-counted c =
    let roomy : Inside = record c.self.inside { table = c.reserve.new.self; schedule = c.next-fate.new.self } in
    let after : Inside = record roomy { table = c.write.new.self } in
    rw (← c.self.view_is) (write_counted c.self.inside roomy after c.args.name.now c.args.bytes.now c.makes.result c.reserve.ensures.table
    (kept_entries c.self.inside roomy c.reserve.ensures.entries c.reserve.ensures.past) c.in_ok-write.ensures.ok)
