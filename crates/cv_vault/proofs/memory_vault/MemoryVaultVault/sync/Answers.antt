use Rattle.cv_vault.specs.declared.memory_vault.MemoryVault.TheInside.{Inside}
use Rattle.cv_vault.proofs.Inside.{numbered_failed, sync_calls, sync_counted}
use Rattle.cv_vault.proofs.memory_vault.MemoryVaultVault.sync.Goals as goal

pub returns-then-fails-clause-numbered : goal.returns-then-fails-clause-numbered
returns-then-fails-clause-numbered c =
    let n = c.next.ensures in
    let after : Inside = record c.self.inside { schedule = c.next.new.self } in
    rw (← c.self.view_is) (numbered_failed c.self.inside after c.next.result (record { fate = n.fate; failing = n.failing; calls = n.calls; faults = n.faults }) c.if-fails.ensures)

pub returns-clause-call : goal.returns-clause-call
returns-clause-call c =
    let after : Inside = record c.self.inside { table = c.sync-changed.new.self; schedule = c.next.new.self } in
    rw (← c.self.view_is) (sync_calls c.self.inside after c.sync-changed.ensures.table c.sync-changed.ensures.settles c.sync-changed.ensures.unchanged c.sync-changed.ensures.disk)

pub returns-clause-counted : goal.returns-clause-counted
returns-clause-counted c =
    let after : Inside = record c.self.inside { table = c.sync-changed.new.self; schedule = c.next.new.self } in
    rw (← c.self.view_is) (sync_counted c.self.inside after c.sync-changed.ensures.table c.sync-changed.ensures.settles c.sync-changed.ensures.unchanged)
