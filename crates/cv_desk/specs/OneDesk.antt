-- One connection over a gate, and what a crash of its calls leaves.
use Rattle.std.specs.Prelude.{◌≡◌, ℕ, Bool, true, List, [], ◌∷◌, ◌++◌, max, IfSome}
use Rattle.std.specs.declared.option.Option.{Option}
use Rattle.std.specs.declared.option.Option.TheVariants.{None, Some}
use Rattle.cv_base.specs.Told.{WhereTold}
use Rattle.cv_ports.specs.Shelf.{Fetches}
use Rattle.cv_vault.specs.Disk.{Disk, Files, ImageOf}
use Rattle.cv_vault.specs.Moments.{LeavesOnly}
use Rattle.cv_manifest.specs.declared.head.Head.{Head}
use Rattle.cv_objects.specs.Names.{standing_on}
use Rattle.cv_gate.specs.Lines.{lines_of}
use Rattle.cv_gate.specs.State.{State}
use Rattle.cv_gate.specs.Step.{Run}
use Rattle.cv_gate.specs.Heads.{heads_since, last_head}
use Rattle.cv_gate.specs.Desk.{DeskView, Call, Calls, asked, listed, fetched, told}
use Rattle.cv_gate.specs.declared.entry.Entry.{Entry}
use Rattle.cv_gate.specs.declared.op.Op.{Op}
use Rattle.cv_gate.specs.declared.reply.Reply.{Reply}
use Rattle.cv_desk.specs.Ends.{OnlyLooks}
use Rattle.cv_desk.specs.Holds.{Survives}
use Rattle.cv_desk.specs.Gate.{GateView, StandsFor, IsSameRepository, Steps}

-- the gate, whose repository it is for, and the newest head that is known
pub record OneDeskView (V S : Type 0) : Type 0 where
  pub gate : GateView V S
  pub head : Head

-- how a desk may be seen over a gate that was opened in a state, whose journal is these entries, and that stands for another
abbrev pub view_since : State → List Entry → State → DeskView
view_since start entries st = record { start = start; seat = 0; alone = true; seen = entries; state = st; heads = heads_since start st }

-- how one may be seen of which nothing was asked yet
abbrev pub first_view : State → DeskView
first_view st = view_since st [] st

-- It is seat 0, alone, and has seen the gate's journal, from a state from which that runs to one for which the gate stands. Each image of
-- its disk is what a crash may leave of that state.
pub record Stands {V S : Type 0} (disk : V → Option Disk) (is_seal : S → List ℕ → List ℕ → Bool) (d : OneDeskView V S) (v : DeskView) : Type 0 where
  pub seat : v.seat ≡ 0
  pub alone : v.alone ≡ true
  pub seen : v.seen ≡ d.gate.journal
  pub state : StandsFor disk is_seal d.gate.state v.state
  pub images : (f : Files) → ImageOf (disk d.gate.state.line.vault) f → Survives d.gate.state.line.name (is_seal d.gate.state.line.signer) v.state None f
  pub run : Run v.start v.seen v.state
  pub heads : v.heads ≡ heads_since v.start v.state
  pub last : last_head v.heads ≡ Some d.head

-- the files stand for what a crash may leave behind a front of the calls, or in the op that is asked behind one
pub data IsLeft (name : List ℕ) (is_seal : List ℕ → List ℕ → Bool) (v : DeskView) (calls : List Call) (f : Files) : Type 0 where
  behind : (done more : List Call) (mid : DeskView) → calls ≡ done ++ more → Calls v done mid → Survives name is_seal mid.state None f → IsLeft name is_seal v calls f
  within : (done more : List Call) (mid : DeskView) (o : Op) (now : ℕ) (r : Reply) → calls ≡ done ++ asked o now r ∷ more → Calls v done mid
      → Survives name is_seal mid.state (Some (record { op = o; now = now })) f → IsLeft name is_seal v calls f

-- However the desk could be seen, the calls lead to how it can be seen then, and a crash meanwhile leaves what it may leave of them.
pub record Goes {V S : Type 0} (disk : V → Option Disk) (count : V → ℕ) (left : V → ℕ → Files → Type 0) (is_seal : S → List ℕ → List ℕ → Bool) (a : OneDeskView V S) (calls : List Call) (b : OneDeskView V S) (v : DeskView) : Type 0 where
  pub next : DeskView
  pub stands : Stands disk is_seal b next
  pub calls_ : Calls v calls next
  pub leaves : LeavesOnly count left (IsLeft a.gate.state.line.name (is_seal a.gate.state.line.signer) v calls) a.gate.state.line.vault b.gate.state.line.vault

-- What a call does, whatever the vault tells: an op is a step of the gate at seat 0, whose newest head is known then; the leases are those that are live; an object is what
-- stands on the disk, where one is told; the newest head is the one that the desk knows.
abbrev pub DoesCall : {V S : Type 0} (disk : V → Option Disk) (count : V → ℕ) (left : V → ℕ → Files → Type 0) → (S → List ℕ → List ℕ → Bool) → OneDeskView V S → Call → OneDeskView V S → Type 0
DoesCall disk count left is_seal a (asked o now r) b = Steps disk count left is_seal o 0 now a.gate b.gate r × (b.head ≡ b.gate.state.line.head)
DoesCall disk count left is_seal a (listed now lines) b = (b ≡ a) × IfSome lines (λ l. l ≡ lines_of (max a.gate.state.moment now) a.gate.state.leases)
DoesCall disk count left is_seal a (fetched id r) b =
    (b ≡ record a { gate = record a.gate { state = b.gate.state } }) × OnlyLooks disk count left a.gate.state b.gate.state
    × WhereTold (disk a.gate.state.line.vault) (λ d. Fetches id r (standing_on d))
DoesCall disk count left is_seal a (told head) b = (b ≡ a) × (head ≡ a.head)

-- what a call does: by itself, and for each way in which the desk could be seen
pub record DoesOne {V S : Type 0} (disk : V → Option Disk) (count : V → ℕ) (left : V → ℕ → Files → Type 0) (is_seal : S → List ℕ → List ℕ → Bool) (a : OneDeskView V S) (c : Call) (b : OneDeskView V S) : Type 0 where
  pub same : IsSameRepository a.gate.state.line b.gate.state.line
  pub does : DoesCall disk count left is_seal a c b
  pub goes : (v : DeskView) → Stands disk is_seal a v → Goes disk count left is_seal a (c ∷ []) b v

-- calls one after another
abbrev pub DoesEach : {V S : Type 0} (disk : V → Option Disk) (count : V → ℕ) (left : V → ℕ → Files → Type 0) → (S → List ℕ → List ℕ → Bool) → OneDeskView V S → List Call → OneDeskView V S → Type 0
DoesEach disk count left is_seal a [] b = b ≡ a
DoesEach {V} {S} disk count left is_seal a (c ∷ calls) b = (mid : OneDeskView V S) × DoesOne disk count left is_seal a c mid × DoesEach disk count left is_seal mid calls b

-- what calls do: one after another, and all of them for each way in which the desk could be seen
pub record DoesCalls {V S : Type 0} (disk : V → Option Disk) (count : V → ℕ) (left : V → ℕ → Files → Type 0) (is_seal : S → List ℕ → List ℕ → Bool) (a : OneDeskView V S) (calls : List Call) (b : OneDeskView V S) : Type 0 where
  pub same : IsSameRepository a.gate.state.line b.gate.state.line
  pub each : DoesEach disk count left is_seal a calls b
  pub goes : (v : DeskView) → Stands disk is_seal a v → Goes disk count left is_seal a calls b v
