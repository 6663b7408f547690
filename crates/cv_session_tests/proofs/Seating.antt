-- A seat of a gate that other seats ask too, for the tests.
use Rattle.std.proofs.Common.{◌≡◌, ◌<◌, ◌++◌, ◌∷◌, ℕ, List, [], refl, ap, sym, subst, ◌∙◌, inl, inr, true, false, arith}
use Rattle.std.specs.Prelude.{Some, None, Err}
use Rattle.cv_base.specs.declared.id.ObjectId.{ObjectId}
use Rattle.cv_base.specs.Token.{last_number}
use Rattle.cv_base.specs.Moment.{IsMoment}
use Rattle.cv_ports.specs.declared.shelf.ShelfFault.TheVariants.{NoMemory}
use Rattle.cv_manifest.specs.declared.head.Head.{Head}
use Rattle.cv_gate.specs.State.{State, aged, certain}
use Rattle.cv_gate.specs.Step.{Step, Run, Acts, IsOp, HasTypes, IsValid, Records}
use Rattle.cv_gate.specs.Heads.{IsFront, head_of, heads_since, last_head}
use Rattle.cv_gate.specs.Desk.{DeskView, asked, listed, fetched, told, made, Between, Learns}
use Rattle.cv_gate.specs.declared.entry.Entry.{Entry}
use Rattle.cv_gate.specs.declared.lease_line.LeaseLine.{LeaseLine}
use Rattle.cv_gate.specs.declared.op.Op.{Op}
use Rattle.cv_gate.specs.declared.op.Op.TheVariants as op
use Rattle.cv_gate.specs.declared.reply.Reply.{Reply}
use Rattle.cv_gate.proofs.Lemmas.{run_on, front_self}
use Rattle.cv_swap.specs.Kept.{Revision}
use Rattle.cv_session_tests.specs.Seats.{own_seat, other_seat, other_op, refusal_of, entry_of, IsSeat, SeatDoes}

-- a gate with one revision, which was asked nothing yet
abbrev opened : Revision → State
opened r = record { history = r ∷ []; leases = []; doubt = None; shelf = λ id. None; loose = λ id. false; moment = 0; epoch = 1; next = 1 }

-- by the head of a revision the seat may be seen
pub a_seat_is_seen : (r : Revision) → (v : DeskView) × IsSeat (head_of r) v
a_seat_is_seen r = (
  record { start = opened r; seat = own_seat; alone = false; seen = []; state = opened r; heads = head_of r ∷ [] },
  record { seat = refl; shared = refl; run = refl; free = refl; certain = refl; room = omega arith; heads = refl; last = refl },
)

-- an op is refused at a moment where no lease is live, and nothing changes but the moment
module _ (st : State) (now : ℕ) (below : IsMoment now) (room : st.next < last_number) (sure : st.doubt ≡ None) (free : st.leases ≡ []) where
  acts : (seat : ℕ) (o : Op) → Acts (aged st now) o (entry_of seat o now) (aged st now)
  acts seat (op.Lease key path) = inl (refl, refl)
  acts seat (op.Store key token digest batch) = ([], refl, inr (inr (refl, λ e. cc, refl), inl (rw free refl, refl, refl)))
  acts seat (op.Commit key token old_root new_root tag) = inr (inl (rw free refl, refl, refl))
  acts seat (op.Cancel key token) = inl (rw free refl, refl, refl)

  records : (seat : ℕ) (o : Op) → Records (entry_of seat o now) o
  records seat (op.Lease key path) = (refl, refl)
  records seat (op.Store key token digest batch) = (refl, ([], refl))
  records seat (op.Commit key token old_root new_root tag) = (refl, refl)
  records seat (op.Cancel key token) = (refl, refl)

  step : (seat : ℕ) (o : Op) → IsValid o → Step st o (entry_of seat o now) (aged st now)
  step seat o valid = record {
    noted = record { op = valid; now = below; records = records seat o };
    next = room;
    does = inr (record { settled = st; settles = certain sure refl; acts = acts seat o });
  }

module _ (head : Head) (v : DeskView) (seen : IsSeat head v) where
  not_alone : v.alone ≡ true → ⊥
  not_alone is = let both : false ≡ true = sym seen.shared ∙ is in cc

  known : last_head (heads_since v.start v.state) ≡ Some head
  known = ap last_head (sym seen.heads) ∙ seen.last

-- an op is asked behind one of the other seat
pub asks : (head : Head) (o : Op) (now : ℕ) (r : Reply) → IsOp o → HasTypes o → IsMoment now → r ≡ refusal_of o → SeatDoes head (asked o now r ∷ []) head
asks head o now r is_op types below is v seen =
    let mid : State = aged v.state now in
    let after : State = aged mid now in
    let others : List Entry = entry_of other_seat other_op now ∷ [] in
    let own : Entry = entry_of own_seat o now in
    let all : List Entry = (v.seen ++ others) ++ own ∷ [] in
    let first : Step v.state other_op (entry_of other_seat other_op now) mid = step v.state now below seen.room seen.certain seen.free other_seat other_op (refl, tt) in
    let free : mid.leases ≡ [] = rw seen.free refl in
    let second : Step mid o own after = step mid now below seen.room seen.certain free own_seat o (is_op, types) in
    let behind : Run v.start (v.seen ++ others) mid = run_on v.seen others v.start v.state mid seen.run (other_op, mid, first, refl) in
    let run : Run v.start all after = run_on (v.seen ++ others) (own ∷ []) v.start mid after behind (o, after, second, refl) in
    let v' : DeskView = record v { seen = all; state = after; heads = heads_since v.start after } in (
      v',
      record { seat = seen.seat; shared = seen.shared; run = run; free = rw seen.free refl; certain = seen.certain; room = seen.room; heads = refl; last = known head v seen },
      (
        v',
        made others mid own (record { run = behind; theirs = rw seen.seat refl; alone = λ is. absurd (not_alone head v seen is) }) (λ is. absurd (not_alone head v seen is)) (sym seen.seat) refl (sym is) second
            (record { view = refl; heads = subst (λ (heads : List Head). IsFront v.heads heads) seen.heads (front_self v.heads) }),
        refl,
      ),
    )

-- the seat has seen all of the journal, to which nothing came
abbrev learned : DeskView → DeskView
learned v = record v { seen = v.seen ++ []; heads = heads_since v.start v.state }

none_between : (head : Head) (v : DeskView) → IsSeat head v → Between v [] v.state
none_between head v seen = record { run = run_on v.seen [] v.start v.state v.state seen.run refl; theirs = refl; alone = λ is. absurd (not_alone head v seen is) }

learns : (head : Head) (v : DeskView) → IsSeat head v → Learns v (learned v)
learns head v seen = record {
  others = [];
  between = none_between head v seen;
  knows = record { view = refl; heads = subst (λ (heads : List Head). IsFront v.heads heads) seen.heads (front_self v.heads) };
}

still : (head : Head) (v : DeskView) → IsSeat head v → IsSeat head (learned v)
still head v seen = record {
  seat = seen.seat;
  shared = seen.shared;
  run = run_on v.seen [] v.start v.state v.state seen.run refl;
  free = seen.free;
  certain = seen.certain;
  room = seen.room;
  heads = refl;
  last = known head v seen;
}

pub lists : (head : Head) (now : ℕ) (lines : List LeaseLine) → lines ≡ [] → SeatDoes head (listed now (Some lines) ∷ []) head
lists head now lines none v seen = (learned v, still head v seen, (learned v, (learns head v seen, rw seen.free none), refl))

pub fetches : (head : Head) (id : ObjectId) → SeatDoes head (fetched id (Err NoMemory) ∷ []) head
fetches head id v seen = (learned v, still head v seen, (learned v, (learns head v seen, tt), refl))

pub tells : (head : Head) → SeatDoes head (told head ∷ []) head
tells head v seen = (
  v,
  seen,
  (
    v,
    record {
      others = [];
      state = v.state;
      between = none_between head v seen;
      view = ap (λ (l : List Head). record v { heads = l }) seen.heads;
      heads = front_self v.heads;
      last = seen.last;
    },
    refl,
  ),
)
