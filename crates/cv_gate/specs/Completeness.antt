-- What is answered where no refusal's condition holds.
use Rattle.std.specs.Prelude.{◌≡◌, ◌⊎◌, ℕ, true, bytes_eq, List, Some}
use Rattle.cv_base.specs.declared.id.ObjectId.{ObjectId}
use Rattle.cv_base.specs.declared.token.Token.{Token}
use Rattle.cv_leases.specs.Leases.{lease_of}
use Rattle.cv_leases.specs.declared.lease.Lease.{Lease}
use Rattle.cv_objects.specs.Coming.{ClashesOn}
use Rattle.cv_swap.specs.Kept.{Revision}
use Rattle.cv_gate.specs.State.{State}
use Rattle.cv_gate.specs.Passing.{IsFree, Passes}
use Rattle.cv_gate.specs.Step.{IsFault}
use Rattle.cv_gate.specs.declared.op.Op.{Op}
use Rattle.cv_gate.specs.declared.op.Op.TheVariants as op
use Rattle.cv_gate.specs.declared.reply.Reply.{Reply}
use Rattle.cv_gate.specs.declared.reply.Reply.TheVariants as reply

-- a live lease has the token, and is the key's own
pub record IsOwn (st : State) (key : List ℕ) (token : Token) : Type 0 where
  pub lease : Lease
  pub live : lease_of token st.leases ≡ Some lease
  pub own : bytes_eq lease.key key ≡ true

-- no refusal's condition holds of the op, and this is what it is answered where no fault comes
abbrev pub Unopposed : State → Op → Reply → Type 0
Unopposed st (op.Lease key path) r =
    (head : Revision) × IsFree st path head × (r ≡ reply.Granted (record { epoch = st.epoch; number = st.next }) head.record_.revision head.record_.root)
Unopposed st (op.Store key token digest batch) r =
    IsOwn st key token × ((id : ObjectId) → ClashesOn st.shelf batch id → ⊥) × (r ≡ reply.Stored)
Unopposed st (op.Commit key token old_root new_root tag) r =
    (new : Revision) × Passes st key token old_root new_root tag new × (r ≡ reply.Committed new.record_.revision new.record_.root)
Unopposed st (op.Cancel key token) r = IsOwn st key token × (r ≡ reply.Cancelled)

-- the op is answered as it was to be, or a fault came: the end of a lease meets none
abbrev pub IsDone : Op → Reply → Reply → Type 0
IsDone (op.Lease key path) r wanted = (r ≡ wanted) ⊎ IsFault r
IsDone (op.Store key token digest batch) r wanted = (r ≡ wanted) ⊎ IsFault r
IsDone (op.Commit key token old_root new_root tag) r wanted = (r ≡ wanted) ⊎ IsFault r
IsDone (op.Cancel key token) r wanted = r ≡ wanted
