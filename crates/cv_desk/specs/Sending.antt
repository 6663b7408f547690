-- What sending a batch of objects leaves on a disk.
use Rattle.std.specs.Prelude.{◌≡◌, List, []}
use Rattle.cv_base.specs.declared.id.ObjectId.{ObjectId}
use Rattle.cv_base.specs.declared.object.Object.{Object}
use Rattle.cv_vault.specs.Names.{on_way}
use Rattle.cv_vault.specs.Disk.{Disk}
use Rattle.cv_vault.specs.Walks.{Gains, Nothing}
use Rattle.cv_vault.specs.declared.vault.VaultFault.{VaultFault}
use Rattle.cv_vault.specs.declared.vault.VaultFault.TheVariants as vault
use Rattle.cv_objects.specs.Names.{standing_on}
use Rattle.cv_objects.specs.Fresh.{fresh_of}
use Rattle.cv_objects.specs.Batches.{IsOne, ShownIn, IsOutside, AreStored}
use Rattle.cv_objects.specs.declared.store_fault.StoreFault.{StoreFault}
use Rattle.cv_objects.specs.declared.store_fault.StoreFault.TheVariants as fault
use Rattle.cv_gate.specs.declared.reply.Reply.{Reply}
use Rattle.cv_gate.specs.declared.reply.Reply.TheVariants as reply

-- how a fault of the store is answered
abbrev pub reply_of : StoreFault → Reply
reply_of (fault.Collision id) = reply.Collision id
reply_of fault.Failed = reply.StoreFailed
reply_of (fault.Damaged id found) = reply.Damaged id found
reply_of fault.NoMemory = reply.NoMemory

-- What is answered, with the ids that were found fresh: the batch was refused, and nothing came; or the disk failed or memory was wanted,
-- before the ids were known, or after, when some may have come; or all came.
pub data IsSent (d : Disk) (batch : List Object) (r : Reply) (fresh : List ObjectId) (d' : Disk) : Type 0 where
  refused : (x : StoreFault) → r ≡ reply_of x → fresh ≡ [] → ShownIn d batch x → Gains on_way Nothing d d' → IsSent d batch r fresh d'
  late : (x : StoreFault) → r ≡ reply_of x → fresh ≡ fresh_of batch (standing_on d) → IsOutside x → IsOne batch → IsSent d batch r fresh d'
  whole : r ≡ reply.Stored → fresh ≡ fresh_of batch (standing_on d) → IsOne batch → AreStored batch d' → IsSent d batch r fresh d'

-- how a fault of the vault is answered
abbrev pub reply_in : VaultFault → Reply
reply_in vault.Failed = reply.StoreFailed
reply_in vault.NoMemory = reply.NoMemory
