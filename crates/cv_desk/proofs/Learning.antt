-- What the gate knows of catalogues says nothing of the states for which it stands.
use Rattle.std.proofs.Common.{ℕ, Bool, List}
use Rattle.std.specs.declared.option.Option.{Option}
use Rattle.cv_base.specs.declared.token.Token.{Token}
use Rattle.cv_vault.specs.Disk.{Disk, Files}
use Rattle.cv_load.specs.declared.known_set.KnownSet.{KnownSet}
use Rattle.cv_gate.specs.State.{State}
use Rattle.cv_gate.specs.declared.op.Op.{Op}
use Rattle.cv_gate.specs.declared.entry.Entry.{Entry}
use Rattle.cv_desk.specs.Gate.{StateView, StandsFor, Does}
use Rattle.cv_desk.specs.Begin.{GetsReady}

stands_knowing : {V S : Type 0} (disk : V → Option Disk) (is_seal : S → List ℕ → List ℕ → Bool) (g : StateView V S) (st : State) (more : KnownSet) → StandsFor disk is_seal g st → StandsFor disk is_seal (record g { known = more }) st
stands_knowing disk is_seal g st more stands = record {
  sound = stands.sound;
  end = stands.end;
  told = stands.told;
  holds = stands.holds;
  records = stands.records;
  head = stands.head;
  doubt = stands.doubt;
  epoch = stands.epoch;
  leases = stands.leases;
  moment = stands.moment;
  next = stands.next;
}

module _ {V S : Type 0} (disk : V → Option Disk) (count : V → ℕ) (left : V → ℕ → Files → Type 0) (is_seal : S → List ℕ → List ℕ → Bool) (o : Op) where
  pub does_knowing : (e : Entry) (before after : StateView V S) (st : State) (more : KnownSet) → Does disk count left is_seal o e before after st → Does disk count left is_seal o e before (record after { known = more }) st
  does_knowing e before after st more does = record { next = does.next; step = does.step; stands = stands_knowing disk is_seal after does.next more does.stands; leaves = does.leaves }

  pub gets_knowing : (now : ℕ) (token : Token) (before after : StateView V S) (st : State) (more : KnownSet) → GetsReady disk count left is_seal o now token before after st
      → GetsReady disk count left is_seal o now token before (record after { known = more }) st
  gets_knowing now token before after st more gets = record {
    new = gets.new;
    stored = gets.stored;
    ready = record {
      sound = gets.ready.sound;
      ready = gets.ready.ready;
      lease = gets.ready.lease;
      stands = stands_knowing disk is_seal after gets.stored more gets.ready.stands;
      all = gets.ready.all;
      next_head = gets.ready.next_head;
      says = gets.ready.says;
    };
    leaves = gets.leaves;
  }
