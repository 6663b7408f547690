-- A commit that is ready: its objects are stored, and only the swap of the head is left.
use Rattle.std.specs.Prelude.{◌≡◌, ℕ, ◌<◌, Some}
use Rattle.cv_base.specs.Token.{last_number}
use Rattle.cv_base.specs.Moment.{IsMoment}
use Rattle.cv_swap.specs.Kept.{Revision}
use Rattle.cv_gate.specs.State.{State, aged, with_revision, Settled}
use Rattle.cv_gate.specs.Objects.{GainsAll}
use Rattle.cv_gate.specs.Commits.{made}
use Rattle.cv_gate.specs.Passing.{MakesNew}
use Rattle.cv_gate.specs.Step.{IsFault, IsValid}
use Rattle.cv_gate.specs.declared.op.Op.{Op}
use Rattle.cv_gate.specs.declared.reply.Reply.{Reply}
use Rattle.cv_gate.specs.declared.reply.Reply.TheVariants as reply

-- a state is settled and aged, the op is a commit that passes there and makes this revision, and its objects are stored
pub record IsReady (before : State) (o : Op) (now : ℕ) (new : Revision) (stored : State) : Type 0 where
  pub op : IsValid o
  pub limit : IsMoment now
  pub next : before.next < last_number
  pub settled : State
  pub settles : Settled before settled
  pub makes : MakesNew (aged settled now) o new
  pub gains : GainsAll (made new) (aged settled now) stored

-- the three ends that are left: the head is swapped, or it isn't known whether it is, or a fault came before
pub data Ends (new : Revision) (stored : State) (r : Reply) (st' : State) : Type 0 where
  swaps : r ≡ reply.Committed new.record_.revision new.record_.root → st' ≡ with_revision stored new → Ends new stored r st'
  wavers : r ≡ reply.StoreFailed → st' ≡ record stored { doubt = Some new } → Ends new stored r st'
  stays : IsFault r → st' ≡ stored → Ends new stored r st'
