-- What sending a batch of objects leaves on a disk. What only this crate's own functions say.
use Rattle.std.specs.Prelude.{Bool, true, false}
use Rattle.cv_cut.specs.declared.load_fault.LoadFault.{LoadFault}
use Rattle.cv_cut.specs.declared.load_fault.LoadFault.TheVariants as load
use Rattle.cv_objects.specs.declared.store_fault.StoreFault.{StoreFault}
use Rattle.cv_objects.specs.declared.store_fault.StoreFault.TheVariants as fault
use Rattle.cv_gate.specs.declared.reply.Reply.{Reply}
use Rattle.cv_gate.specs.declared.reply.Reply.TheVariants as reply

-- the fault refuses the batch
abbrev pub is_refusal : StoreFault → Bool
is_refusal (fault.Collision id) = true
is_refusal fault.Failed = false
is_refusal (fault.Damaged id found) = true
is_refusal fault.NoMemory = false

-- how a fault of a catalogue is answered
abbrev pub reply_from : LoadFault → Reply
reply_from (load.Missing id) = reply.NoMemory
reply_from (load.Bad id) = reply.NoMemory
reply_from load.Failed = reply.StoreFailed
reply_from (load.Damaged id found) = reply.Damaged id found
reply_from load.NoMemory = reply.NoMemory
