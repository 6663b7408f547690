use Rattle.std.proofs.Common.{refl}
use Rattle.cv_vault.specs.declared.memory_vault.MemoryVault.TheInside.{Inside}
use Rattle.cv_vault.proofs.Inside.{numbered_failed, kept_same, calls_read}
use Rattle.cv_vault.proofs.memory_vault.MemoryVaultVault.read.Goals as goal

pub returns-then-fails-clause-numbered : goal.returns-then-fails-clause-numbered
returns-then-fails-clause-numbered c =
    let n = c.next.ensures in
    let after : Inside = record c.self.inside { schedule = c.next.new.self } in
    rw (← c.self.view_is) (numbered_failed c.self.inside after c.next.result (record { fate = n.fate; failing = n.failing; calls = n.calls; faults = n.faults }) c.if-fails.ensures)

pub returns-clause-call : goal.returns-clause-call
returns-clause-call c =
    let after : Inside = record c.self.inside { schedule = c.next.new.self } in
    rw (← c.self.view_is) (calls_read c.self.inside after c.args.name.now _ c.copy_of.result c.file.ensures.table (kept_same c.self.inside after refl) c.file.ensures.file c.copy_of.ensures.copy)
