-- What a desk is asked, what it answers, and how it comes to know the journal meanwhile.
use Rattle.std.specs.Prelude.{◌≡◌, ◌++◌, ◌∷◌, ◌==◌, ◌<◌, ℕ, List, [], length, max, Bool, true, Option, IfSome, Result, Ok, Err}
use Rattle.std.specs.List.{filter, flat_map, sum_by}
use Rattle.std.specs.declared.option.Option.TheVariants.{Some}
use Rattle.cv_base.specs.declared.id.ObjectId.{ObjectId}
use Rattle.cv_ports.specs.Shelf.{Shelf}
use Rattle.cv_ports.specs.declared.shelf.ShelfFault.{ShelfFault}
use Rattle.cv_ports.specs.declared.shelf.ShelfFault.TheVariants.{Failed, Damaged, NoMemory}
pub use Rattle.cv_manifest.specs.Manifest.{IsHead}
use Rattle.cv_manifest.specs.declared.head.Head.{Head}
use Rattle.cv_gate.specs.Lines.{lines_of}
use Rattle.cv_gate.specs.State.{State}
use Rattle.cv_gate.specs.Step.{Step, Run}
use Rattle.cv_gate.specs.declared.entry.Entry.{Entry}
use Rattle.cv_gate.specs.declared.entry.TheConstants.{JOURNAL_LIMIT}
use Rattle.cv_gate.specs.declared.lease_line.LeaseLine.{LeaseLine}
use Rattle.cv_gate.specs.declared.op.Op.{Op}
use Rattle.cv_gate.specs.declared.reply.Reply.{Reply}
use Rattle.cv_gate.specs.declared.reply.Reply.TheVariants.{JournalFull, StoreFailed}
use Rattle.cv_gate.specs.Heads.{IsFront, heads_since, last_head}

-- How a desk may be seen: the state with which its gate was opened, the number of its seat, whether it asks the gate alone,
-- the entries of the journal that it has seen, a state to which they run, and the heads that stood published, as far as it knows
-- of them.
pub record DeskView : Type 0 where
  pub start : State
  pub seat : ℕ
  pub alone : Bool
  pub seen : List Entry
  pub state : State
  pub heads : List Head

-- the entries of a seat
abbrev pub by_seat : ℕ → List Entry → List Entry
by_seat seat entries = filter (λ e. e.seat == seat) entries

abbrev pub own : DeskView → List Entry
own v = by_seat v.seat v.seen

-- ---- calls

-- a call of a desk, and what it answered: an op at a moment; the leases at a moment, or none where memory was wanted; an object;
-- the newest head
pub data Call : Type 0 where
  asked : Op → ℕ → Reply → Call
  listed : ℕ → Option (List LeaseLine) → Call
  fetched : ObjectId → Result (Option (List ℕ)) ShelfFault → Call
  told : Head → Call

-- the moments at which a desk was called
abbrev pub moments_in : Call → List ℕ
moments_in (asked o now r) = now ∷ []
moments_in (listed now lines) = now ∷ []
moments_in (fetched id r) = []
moments_in (told head) = []

abbrev pub moments_of : List Call → List ℕ
moments_of calls = flat_map moments_in calls

-- the store failed
abbrev pub fault_in_reply : Reply → ℕ
fault_in_reply StoreFailed = 1
fault_in_reply other = 0

abbrev pub fault_in_fetch : Result (Option (List ℕ)) ShelfFault → ℕ
fault_in_fetch (Err Failed) = 1
fault_in_fetch other = 0

-- how many faults of the store a call answered
abbrev pub faults_in : Call → ℕ
faults_in (asked o now r) = fault_in_reply r
faults_in (fetched id r) = fault_in_fetch r
faults_in (listed now lines) = 0
faults_in (told head) = 0

abbrev pub faults_of : List Call → ℕ
faults_of calls = sum_by faults_in calls

-- ---- what a call does

-- entries of other seats, which the desk hadn't seen, and a state behind them; there are none where it is alone
pub record Between (v : DeskView) (others : List Entry) (st : State) : Type 0 where
  pub run : Run v.start (v.seen ++ others) st
  pub theirs : by_seat v.seat others ≡ []
  pub alone : v.alone ≡ true → (others ≡ []) × (st ≡ v.state)

-- the desk has seen these entries, this state to which they run, and the heads that stood published until then
pub record Knows (v : DeskView) (seen : List Entry) (v' : DeskView) : Type 0 where
  pub view : v' ≡ record v { seen = seen; state = v'.state; heads = heads_since v.start v'.state }
  pub heads : IsFront v.heads v'.heads

-- the desk has seen all of the journal
pub record Learns (v v' : DeskView) : Type 0 where
  pub others : List Entry
  pub between : Between v others v'.state
  pub knows : Knows v (v.seen ++ others) v'

-- an op was asked at a moment: the entry with the reply is a step behind all others, and where the desk is alone the journal had room for
-- it; or the journal is full
pub data Takes (o : Op) (now : ℕ) (r : Reply) (v v' : DeskView) : Type 0 where
  made : (others : List Entry) (before : State) (e : Entry) → Between v others before → (v.alone ≡ true → length v.seen < JOURNAL_LIMIT)
      → e.seat ≡ v.seat → e.now ≡ now → e.reply ≡ r
      → Step before o e v'.state → Knows v ((v.seen ++ others) ++ e ∷ []) v' → Takes o now r v v'
  full : r ≡ JournalFull → Learns v v' → length v'.seen ≡ JOURNAL_LIMIT → Takes o now r v v'

-- what is told of an object is what stands on the shelf, unless the store failed or memory was wanted
abbrev pub Finds : ObjectId → Shelf → Result (Option (List ℕ)) ShelfFault → Type 0
Finds id shelf (Ok found) = found ≡ shelf id
Finds id shelf (Err Failed) = Unit {0}
Finds id shelf (Err (Damaged named digest)) = ⊥
Finds id shelf (Err NoMemory) = Unit {0}

-- the heads are those that stood published in a state behind what the desk has seen and entries of other seats, and the one that
-- is told is the newest of them
pub record Tells (head : Head) (v v' : DeskView) : Type 0 where
  pub others : List Entry
  pub state : State
  pub between : Between v others state
  pub view : v' ≡ record v { heads = heads_since v.start state }
  pub heads : IsFront v.heads v'.heads
  pub last : last_head v'.heads ≡ Some head

abbrev pub Does : Call → DeskView → DeskView → Type 0
Does (asked o now r) v v' = Takes o now r v v'
Does (listed now lines) v v' = Learns v v' × IfSome lines (λ l. l ≡ lines_of (max v'.state.moment now) v'.state.leases)
Does (fetched id r) v v' = Learns v v' × Finds id v'.state.shelf r
Does (told head) v v' = Tells head v v'

-- calls one after another
abbrev pub Calls : DeskView → List Call → DeskView → Type 0
Calls v [] v' = v' ≡ v
Calls v (c ∷ calls) v' = (mid : DeskView) × Does c v mid × Calls mid calls v'

-- however the desk could be seen before the calls, it can be seen so after them that they lead there
abbrev pub Leads : (DeskView → Type 0) → List Call → (DeskView → Type 0) → Type 0
Leads Before calls After = (v : DeskView) → Before v → (v' : DeskView) × After v' × Calls v calls v'
