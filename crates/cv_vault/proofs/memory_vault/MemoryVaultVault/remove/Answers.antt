use Rattle.cv_vault.specs.declared.memory_vault.MemoryVault.TheInside.{Inside}
use Rattle.cv_vault.proofs.Inside.{numbered_answer, remove_calls, remove_failed, removal_counted, removal_room}
use Rattle.cv_vault.proofs.memory_vault.MemoryVaultVault.remove.Goals as goal

pub remove-there-requires : goal.remove-there-requires
remove-there-requires c = record { room = removal_room c.self.inside c.args.name.now c.self.invariant }

pub returns-clause-call : goal.returns-clause-call
returns-clause-call c =
    let after : Inside = record c.self.inside { table = c.remove-there.new.self; schedule = c.next-fate.new.self } in
    rw (← c.self.view_is) (remove_calls c.self.inside after c.args.name.now c.next-fate.result c.remove-there.result c.answer.result c.remove-there.ensures.table c.answer.ensures
    (rw c.makes.ensures at c.remove-there.ensures.there) c.remove-there.ensures.absent)

pub returns-clause-numbered : goal.returns-clause-numbered
returns-clause-numbered c =
    let n = c.next-fate.ensures in
    let after : Inside = record c.self.inside { table = c.remove-there.new.self; schedule = c.next-fate.new.self } in
    rw (← c.self.view_is) (numbered_answer c.self.inside after c.next-fate.result c.remove-there.result c.answer.result (record { fate = n.fate; failing = n.failing; calls = n.calls; faults = n.faults }) c.answer.ensures)

pub returns-clause-failed : goal.returns-clause-failed
returns-clause-failed c =
    let n = c.next-fate.ensures in
    let after : Inside = record c.self.inside { table = c.remove-there.new.self; schedule = c.next-fate.new.self } in
    rw (← c.self.view_is) (remove_failed c.self.inside after c.args.name.now c.next-fate.result c.remove-there.result c.answer.result c.remove-there.ensures.table c.answer.ensures
    (rw c.makes.ensures at c.remove-there.ensures.there) c.remove-there.ensures.absent (record { fate = n.fate; failing = n.failing; calls = n.calls; faults = n.faults }))

pub returns-clause-counted : goal.returns-clause-counted
returns-clause-counted c =
    let after : Inside = record c.self.inside { table = c.remove-there.new.self; schedule = c.next-fate.new.self } in
    rw (← c.self.view_is) (removal_counted c.self.inside after c.args.name.now c.makes.result c.remove-there.result c.remove-there.ensures.table c.remove-there.ensures.there c.remove-there.ensures.absent)
