use Rattle.std.proofs.Common.{refl}
use Rattle.cv_vault.specs.declared.memory_vault.MemoryVault.TheInside.{Inside}
use Rattle.cv_vault.proofs.Inside.{numbered_failed, kept_same, calls_listed, no_memory}
use Rattle.cv_vault.proofs.memory_vault.MemoryVaultVault.list.Goals as goal

pub returns-then-fails-clause-numbered : goal.returns-then-fails-clause-numbered
returns-then-fails-clause-numbered c =
    let n = c.next.ensures in
    let after : Inside = record c.self.inside { schedule = c.next.new.self } in
    rw (← c.self.view_is) (numbered_failed c.self.inside after c.next.result (record { fate = n.fate; failing = n.failing; calls = n.calls; faults = n.faults }) c.if-fails.ensures)

pub returns-in_err-list-clause-call : goal.returns-in_err-list-clause-call
returns-in_err-list-clause-call c =
    let after : Inside = record c.self.inside { schedule = c.next.new.self } in
    rw (← c.self.view_is) (calls_listed c.self.inside after c.args.prefix.now c.from_residual.result (no_memory c.from_residual.result c.from_residual.ensures.1) (kept_same c.self.inside after refl))
