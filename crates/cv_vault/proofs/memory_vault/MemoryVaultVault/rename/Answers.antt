use Rattle.std.proofs.Common.{refl, Bool}
use Rattle.cv_vault.specs.Disk.{Renames}
use Rattle.cv_vault.specs.MemoryVault.{memory_of}
use Rattle.cv_vault.specs.declared.memory_vault.MemoryVault.TheInside.{Inside}
use Rattle.cv_vault.proofs.Inside.{Wants, wants, kept_same, kept_entries, kept_then, numbered_answer, rename_calls, rename_failed, rename_counted}
use Rattle.cv_vault.proofs.memory_vault.MemoryVaultVault.rename.Goals as goal

-- no memory for what is owed
abbrev unowed : goal.After-from_residual → Inside
unowed c = record c.self.inside { schedule = c.next-fate.new.self }

owes : (c : goal.After-from_residual) → Wants {X = Bool} (λ r. Renames c.args.from.now c.args.to.now r) (memory_of c.self.inside) (memory_of (unowed c)) c.from_residual.result
owes c =
    let n = c.next-fate.ensures in
    wants _ c.self.inside (unowed c) c.next-fate.result c.from_residual.result (record { fate = n.fate; failing = n.failing; calls = n.calls; faults = n.faults })
    (kept_same c.self.inside (unowed c) refl) c.from_residual.ensures.1 (λ d. refl)

pub returns-in_err-more-clause-call : goal.returns-in_err-more-clause-call
returns-in_err-more-clause-call c = rw (← c.self.view_is) (owes c).call

pub returns-in_err-more-clause-numbered : goal.returns-in_err-more-clause-numbered
returns-in_err-more-clause-numbered c = rw (← c.self.view_is) (owes c).numbered

pub returns-in_err-more-clause-counted : goal.returns-in_err-more-clause-counted
returns-in_err-more-clause-counted c = rw (← c.self.view_is) (owes c).counted

-- no room in the table
abbrev full : goal.After-from_residual-in_err-reserve → Inside
full c = record c.self.inside { table = c.reserve.new.self; schedule = c.next-fate.new.self }

is_full : (c : goal.After-from_residual-in_err-reserve) → Wants {X = Bool} (λ r. Renames c.args.from.now c.args.to.now r) (memory_of c.self.inside) (memory_of (full c)) c.from_residual-in_err-reserve.result
is_full c =
    let n = c.next-fate.ensures in
    wants _ c.self.inside (full c) c.next-fate.result c.from_residual-in_err-reserve.result (record { fate = n.fate; failing = n.failing; calls = n.calls; faults = n.faults })
    (kept_entries c.self.inside (full c) c.reserve.ensures.entries c.reserve.ensures.past) c.from_residual-in_err-reserve.ensures.1 (λ d. refl)

pub returns-in_err-reserve-clause-call : goal.returns-in_err-reserve-clause-call
returns-in_err-reserve-clause-call c = rw (← c.self.view_is) (is_full c).call

pub returns-in_err-reserve-clause-numbered : goal.returns-in_err-reserve-clause-numbered
returns-in_err-reserve-clause-numbered c = rw (← c.self.view_is) (is_full c).numbered

pub returns-in_err-reserve-clause-counted : goal.returns-in_err-reserve-clause-counted
returns-in_err-reserve-clause-counted c = rw (← c.self.view_is) (is_full c).counted

-- no memory for the change
abbrev roomy : goal.After-from_residual-in_err-there → Inside
roomy c = record c.self.inside { table = c.reserve.new.self; schedule = c.next-fate.new.self }

abbrev stopped : goal.After-from_residual-in_err-there → Inside
stopped c = record c.self.inside { table = c.rename.new.self; schedule = c.next-fate.new.self }

stops : (c : goal.After-from_residual-in_err-there) → Wants {X = Bool} (λ r. Renames c.args.from.now c.args.to.now r) (memory_of c.self.inside) (memory_of (stopped c)) c.from_residual-in_err-there.result
stops c =
    let n = c.next-fate.ensures in
    wants _ c.self.inside (stopped c) c.next-fate.result c.from_residual-in_err-there.result (record { fate = n.fate; failing = n.failing; calls = n.calls; faults = n.faults })
    (kept_then c.self.inside (roomy c) (stopped c) (kept_entries c.self.inside (roomy c) c.reserve.ensures.entries c.reserve.ensures.past) c.in_err-there.ensures.err) c.from_residual-in_err-there.ensures.1 (λ d. refl)

pub returns-in_err-there-clause-call : goal.returns-in_err-there-clause-call
returns-in_err-there-clause-call c = rw (← c.self.view_is) (stops c).call

pub returns-in_err-there-clause-numbered : goal.returns-in_err-there-clause-numbered
returns-in_err-there-clause-numbered c = rw (← c.self.view_is) (stops c).numbered

pub returns-in_err-there-clause-counted : goal.returns-in_err-there-clause-counted
returns-in_err-there-clause-counted c = rw (← c.self.view_is) (stops c).counted

pub returns-clause-call : goal.returns-clause-call
returns-clause-call c =
    let roomy : Inside = record c.self.inside { table = c.reserve.new.self; schedule = c.next-fate.new.self } in
    let after : Inside = record roomy { table = c.rename.new.self } in
    rw (← c.self.view_is) (rename_calls c.self.inside roomy after c.args.from.now c.args.to.now c.next-fate.result c.in_ok-there.there c.answer.result c.reserve.ensures.table
    (kept_entries c.self.inside roomy c.reserve.ensures.entries c.reserve.ensures.past) c.answer.ensures (rw c.makes.ensures at c.in_ok-there.ensures.there) c.in_ok-there.ensures.absent)

pub returns-clause-numbered : goal.returns-clause-numbered
returns-clause-numbered c =
    let n = c.next-fate.ensures in
    let after : Inside = record c.self.inside { table = c.rename.new.self; schedule = c.next-fate.new.self } in
    rw (← c.self.view_is) (numbered_answer c.self.inside after c.next-fate.result c.in_ok-there.there c.answer.result (record { fate = n.fate; failing = n.failing; calls = n.calls; faults = n.faults }) c.answer.ensures)

pub returns-clause-failed : goal.returns-clause-failed
returns-clause-failed c =
    let n = c.next-fate.ensures in
    let roomy : Inside = record c.self.inside { table = c.reserve.new.self; schedule = c.next-fate.new.self } in
    let after : Inside = record roomy { table = c.rename.new.self } in
    rw (← c.self.view_is) (rename_failed c.self.inside roomy after c.args.from.now c.args.to.now c.next-fate.result c.in_ok-there.there c.answer.result c.reserve.ensures.table
    (kept_entries c.self.inside roomy c.reserve.ensures.entries c.reserve.ensures.past) c.answer.ensures (rw c.makes.ensures at c.in_ok-there.ensures.there) c.in_ok-there.ensures.absent (record { fate = n.fate; failing = n.failing; calls = n.calls; faults = n.faults }))

pub returns-clause-counted : goal.returns-clause-counted
returns-clause-counted c =
    let roomy : Inside = record c.self.inside { table = c.reserve.new.self; schedule = c.next-fate.new.self } in
    let after : Inside = record roomy { table = c.rename.new.self } in
    rw (← c.self.view_is) (rename_counted c.self.inside roomy after c.args.from.now c.args.to.now c.makes.result c.in_ok-there.there c.reserve.ensures.table
    (kept_entries c.self.inside roomy c.reserve.ensures.entries c.reserve.ensures.past) c.in_ok-there.ensures.there c.in_ok-there.ensures.absent)
