-- A seat of a gate that other seats ask too, for the tests: before each of its entries stands one of another seat. No lease is live,
-- so that whatever is asked of one is refused, and a lease itself wants memory.
use Rattle.std.specs.Prelude.{◌≡◌, ◌<◌, false}
use Rattle.std.proofs.Common.{◌++◌, ◌∷◌, ℕ, List, [], refl}
use Rattle.std.specs.declared.option.Option.TheVariants.{None, Some}
use Rattle.cv_base.specs.Token.{last_number}
use Rattle.cv_manifest.specs.declared.head.Head.{Head}
use Rattle.cv_gate.specs.Desk.{DeskView, Call, Leads}
use Rattle.cv_gate.specs.Heads.{heads_since, last_head}
use Rattle.cv_gate.specs.Step.{Run}
use Rattle.cv_gate.proofs.Lemmas.{calls_on}
use Rattle.cv_gate.specs.declared.act.Act.{Act}
use Rattle.cv_gate.specs.declared.act.Act.TheVariants as act
use Rattle.cv_gate.specs.declared.entry.Entry.{Entry}
use Rattle.cv_gate.specs.declared.op.Op.{Op}
use Rattle.cv_gate.specs.declared.op.Op.TheVariants as op
use Rattle.cv_gate.specs.declared.reply.Reply.{Reply}
use Rattle.cv_gate.specs.declared.reply.Reply.TheVariants as reply

-- the numbers of the seat and of the other one
abbrev pub own_seat : ℕ
own_seat = 0

abbrev pub other_seat : ℕ
other_seat = 1

-- what is replied to an op
abbrev pub refusal_of : Op → Reply
refusal_of (op.Lease key path) = reply.NoMemory
refusal_of (op.Store key token digest batch) = reply.InvalidToken
refusal_of (op.Commit key token old_root new_root tag) = reply.InvalidToken
refusal_of (op.Cancel key token) = reply.InvalidToken

abbrev pub key_in : Op → List ℕ
key_in (op.Lease key path) = key
key_in (op.Store key token digest batch) = key
key_in (op.Commit key token old_root new_root tag) = key
key_in (op.Cancel key token) = key

abbrev pub act_in : Op → Act
act_in (op.Lease key path) = act.Lease path
act_in (op.Store key token digest batch) = act.Store token digest []
act_in (op.Commit key token old_root new_root tag) = act.Commit token old_root new_root tag
act_in (op.Cancel key token) = act.Cancel token

-- the entry of an op that a seat asked at a moment
abbrev pub entry_of : ℕ → Op → ℕ → Entry
entry_of seat o now = record { seat = seat; now = now; key = key_in o; act = act_in o; reply = refusal_of o }

-- what the other seat asks: the end of a lease
abbrev pub other_op : Op
other_op = op.Cancel (107 ∷ []) (record { epoch = 0; number = 0 })

-- how the seat may be seen, by the newest head: it isn't alone, and its gate has no lease and nothing in doubt
pub record IsSeat (head : Head) (v : DeskView) : Type 0 where
  pub seat : v.seat ≡ own_seat
  pub shared : v.alone ≡ false
  pub run : Run v.start v.seen v.state
  pub free : v.state.leases ≡ []
  pub certain : v.state.doubt ≡ None
  pub room : v.state.next < last_number
  pub heads : v.heads ≡ heads_since v.start v.state
  pub last : last_head v.heads ≡ Some head

-- calls lead from each way in which it may be seen to one
abbrev pub SeatDoes : Head → List Call → Head → Type 0
SeatDoes head calls head' = Leads (IsSeat head) calls (IsSeat head')

pub seat_none : (head : Head) → SeatDoes head [] head
seat_none head v seen = (v, seen, refl)

pub seat_more : (a b c : Head) (calls more : List Call) → SeatDoes a calls b → SeatDoes b more c → SeatDoes a (calls ++ more) c
seat_more a b c calls more first and v seen =
    let mid = first v seen in
    let last = and mid.0 mid.1 in
    (last.0, last.1, calls_on calls more v mid.0 last.0 mid.2 last.2)
