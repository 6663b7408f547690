-- The entries of a desk's own calls.
use Rattle.std.proofs.Common.{◌≡◌, ◌++◌, ◌∷◌, ℕ, List, [], ap, sym, subst, ◌∙◌, append_assoc, append-nil, rules, true, cond}
use Rattle.std.specs.Prelude.{◌==◌}
use Rattle.std.proofs.lemmas.List.Elements.{filter-append}
use Rattle.cv_gate.specs.declared.entry.Entry.{Entry}
use Rattle.cv_gate.specs.declared.reply.Reply.{Reply}
use Rattle.cv_gate.specs.Heads.{IsFront}
use Rattle.cv_gate.specs.Desk.{DeskView, Call, asked, listed, fetched, told, by_seat, own, Knows, Learns, made, full, Does, Calls}
use Rattle.cv_gate.specs.Own.{AreOf, nothing, entered, listing, fetching, telling, Adds}
use Rattle.cv_gate.specs.Own.{full as none_for}
use Rattle.cv_gate.proofs.Runs.{front_trans}

-- what one call adds
record AddsOne (v : DeskView) (c : Call) (v' : DeskView) : Type 0 where
  entries : List Entry
  are : (calls : List Call) (more : List Entry) → AreOf calls more → AreOf (c ∷ calls) (entries ++ more)
  own_ : own v' ≡ own v ++ entries
  seen : IsFront v.seen v'.seen
  heads : IsFront v.heads v'.heads
  seat : v'.seat ≡ v.seat

same_test : (a b : ℕ) → a ≡ b → (a == b) ≡ true
same_test a b is = search (rules, is)

-- what is seen then, by one seat
seen_by : (v v' : DeskView) (others mine : List Entry) → by_seat v.seat others ≡ [] → v'.seat ≡ v.seat → v'.seen ≡ v.seen ++ others ++ mine → own v' ≡ own v ++ by_seat v.seat mine
seen_by v v' others mine none seat seen =
    ap (λ n. by_seat n v'.seen) seat ∙ ap (by_seat v.seat) seen ∙ filter-append (λ (e : Entry). e.seat == v.seat) (v.seen ++ others) mine
    ∙ ap (λ (l : List Entry). l ++ by_seat v.seat mine)
    (filter-append (λ (e : Entry). e.seat == v.seat) v.seen others ∙ ap (λ (l : List Entry). own v ++ l) none ∙ append-nil (own v))

knows_seat : {v v' : DeskView} {seen : List Entry} → Knows v seen v' → v'.seat ≡ v.seat
knows_seat k = ap (λ (x : DeskView). x.seat) k.view

knows_seen : {v v' : DeskView} {seen : List Entry} → Knows v seen v' → v'.seen ≡ seen
knows_seen k = ap (λ (x : DeskView). x.seen) k.view

learns_one : (v v' : DeskView) (c : Call) → ((calls : List Call) (more : List Entry) → AreOf calls more → AreOf (c ∷ calls) more) → Learns v v' → AddsOne v c v'
learns_one v v' c are l = record {
  entries = [];
  are = are;
  own_ = seen_by v v' l.others [] l.between.theirs (knows_seat l.knows) (knows_seen l.knows ∙ sym (append-nil (v.seen ++ l.others)));
  seen = record { more = l.others; split = knows_seen l.knows };
  heads = l.knows.heads;
  seat = knows_seat l.knows;
}

one_call : (v : DeskView) (c : Call) (v' : DeskView) → Does c v v' → AddsOne v c v'
one_call v (asked o now r) v' (made others before e between room seat moment is step knows) = record {
  entries = e ∷ [];
  are = λ calls more rest.
      subst (λ (n : ℕ). AreOf (asked o n r ∷ calls) (e ∷ more)) moment
      (subst (λ (x : Reply). AreOf (asked o e.now x ∷ calls) (e ∷ more)) is (entered o e step.records rest));
  own_ =
      seen_by v v' others (e ∷ []) between.theirs (knows_seat knows) (knows_seen knows)
      ∙ ap (λ b. own v ++ cond b (e ∷ []) []) (same_test e.seat v.seat seat);
  seen = record { more = others ++ e ∷ []; split = knows_seen knows ∙ append_assoc v.seen others (e ∷ []) };
  heads = knows.heads;
  seat = knows_seat knows;
}
one_call v (asked o now r) v' (full is learns count) =
    learns_one v v' (asked o now r)
    (λ calls more rest. subst (λ (x : Reply). AreOf (asked o now x ∷ calls) more) (sym is) (none_for o now rest)) learns
one_call v (listed now lines) v' does = learns_one v v' (listed now lines) (λ calls more rest. listing now lines rest) does.0
one_call v (fetched id r) v' does = learns_one v v' (fetched id r) (λ calls more rest. fetching id r rest) does.0
one_call v (told head) v' does =
    let seen : v'.seen ≡ v.seen = ap (λ (x : DeskView). x.seen) does.view in
    let seat : v'.seat ≡ v.seat = ap (λ (x : DeskView). x.seat) does.view in
    record {
      entries = [];
      are = λ calls more rest. telling head rest;
      own_ = ap (λ n. by_seat n v'.seen) seat ∙ ap (by_seat v.seat) seen ∙ sym (append-nil (own v));
      seen = record { more = []; split = seen ∙ sym (append-nil v.seen) };
      heads = does.heads;
      seat = seat;
    }

pub all_calls : (v v' : DeskView) (calls : List Call) → Calls v calls v' → Adds v calls v'
all_calls v v' [] same = record {
  entries = [];
  are = nothing;
  own_ = ap own same ∙ sym (append-nil (own v));
  seen = record { more = []; split = ap (λ (x : DeskView). x.seen) same ∙ sym (append-nil v.seen) };
  heads = record { more = []; split = ap (λ (x : DeskView). x.heads) same ∙ sym (append-nil v.heads) };
  seat = ap (λ (x : DeskView). x.seat) same;
}
all_calls v v' (c ∷ calls) does =
    let one = one_call v c does.0 does.1 in
    let more = all_calls does.0 v' calls does.2 in
    record {
      entries = one.entries ++ more.entries;
      are = one.are calls more.entries more.are;
      own_ = more.own_ ∙ ap (λ (l : List Entry). l ++ more.entries) one.own_ ∙ append_assoc (own v) one.entries more.entries;
      seen = front_trans one.seen more.seen;
      heads = front_trans one.heads more.heads;
      seat = more.seat ∙ one.seat;
    }
