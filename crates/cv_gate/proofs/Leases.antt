-- Leases stay apart, and each stays as it was granted.
use Rattle.std.proofs.Common.{length, ◌<◌, ◌≡◌, ◌≤◌, ◌+◌, ◌&&◌, ℕ, Bool, true, false, cond, nat_eq, List, [], ◌∷◌, ◌++◌, refl, sym, subst, ◌∙◌, inl, inr, arith}
use Rattle.std.specs.declared.option.Option.{Option}
use Rattle.std.specs.declared.option.Option.TheVariants.{None, Some}
use Rattle.std.specs.List.{filter, AllByRecursion}
use Rattle.std.proofs.lemmas.Bool.{eqb-true}
use Rattle.cv_base.specs.declared.id.ObjectId.{ObjectId}
use Rattle.cv_ports.specs.Shelf.{Shelf}
use Rattle.cv_base.specs.Marker.{marker, ends_in}
use Rattle.cv_leases.specs.declared.limits.TheConstants.{LEASE_LIMIT}
use Rattle.cv_leases.specs.Leases.{lease_of, busy, IsTable}
use Rattle.cv_leases.specs.declared.lease.Lease.{Lease}
use Rattle.cv_leases.proofs.Laws.{all_filter, table_filter, table_push}
use Rattle.cv_base.specs.Path.{Path}
use Rattle.cv_base.specs.declared.object.Object.{Object}
use Rattle.cv_base.proofs.Laws.{all_push}
use Rattle.cv_gate.specs.State.{State, aged, Settled, certain, unmade, published}
use Rattle.cv_swap.specs.Kept.{Revision}
use Rattle.cv_gate.specs.declared.lease_line.TheConstants.{LEASE_TIME}
use Rattle.cv_gate.specs.Passing.{granted}
use Rattle.cv_gate.specs.Step.{Step, Run}
use Rattle.cv_gate.specs.Sound.{IsGranted, AreLeases}
use Rattle.cv_gate.specs.declared.op.Op.{Op}
use Rattle.cv_gate.specs.declared.reply.Reply.{Reply}
use Rattle.cv_gate.specs.declared.entry.Entry.{Entry}
use Rattle.cv_gate.proofs.Effects.{Effect, nothing, gains, stores, grants, cancels, publishes, wavers, of_act}

-- time and numbers only go on
pub record Later (st st' : State) : Type 0 where
  pub epoch : st'.epoch ≡ st.epoch
  pub next : st.next ≤ st'.next
  pub moment : st.moment ≤ st'.moment

later : (st st' : State) → Later st st' → (leases : List Lease) → AllByRecursion (IsGranted st) leases → AllByRecursion (IsGranted st') leases
later st st' l [] h = tt
later st st' l (lease ∷ leases) h = (
  record {
    epoch = h.0.epoch ∙ sym l.epoch;
    number = (let old = h.0.number in let next = l.next in omega (arith, old, next));
    deadline = (let old = h.0.deadline in let moment = l.moment in omega (arith, old, moment));
  },
  later st st' l leases h.1,
)

-- some of the leases stay
pub filtered : (test : Lease → Bool) (st st' : State) → Later st st' → st'.leases ≡ filter test st.leases → AreLeases st → AreLeases st'
filtered test st st' l e h = record {
  table = subst IsTable (sym e) (table_filter test st.leases h.table);
  granted = subst (AllByRecursion (IsGranted st')) (sym e) (all_filter _ test st.leases (later st st' l st.leases h.granted));
}

-- all of them stay
same : (st st' : State) → Later st st' → st'.leases ≡ st.leases → AreLeases st → AreLeases st'
same st st' l e h = record {
  table = subst IsTable (sym e) h.table;
  granted = subst (AllByRecursion (IsGranted st')) (sym e) (later st st' l st.leases h.granted);
}

-- no lease has the next number
pub is_new : (st : State) (leases : List Lease) → AllByRecursion (IsGranted st) leases → lease_of (record { epoch = st.epoch; number = st.next }) leases ≡ None
is_new st [] h = refl
is_new st (lease ∷ leases) h =
    elim (nat_eq lease.token.number st.next) as (λ b. nat_eq lease.token.number st.next ≡ b → cond (nat_eq lease.token.epoch st.epoch && b) (Some lease) (lease_of (record { epoch = st.epoch; number = st.next }) leases) ≡ None) [
      | true ↦ λ e. let is = eqb-true _ _ e in let less = h.0.number in absurd (omega (arith, is, less))
      | false ↦ λ e. elim (nat_eq lease.token.epoch st.epoch) as (λ b. cond (b && false) (Some lease) (lease_of (record { epoch = st.epoch; number = st.next }) leases) ≡ None) [
        | true ↦ is_new st leases h.1
        | false ↦ is_new st leases h.1
      ]
    ] refl

-- no lease ends after one that is granted now
pub ends_last : (st : State) (leases : List Lease) → AllByRecursion (IsGranted st) leases → AllByRecursion (λ other. other.deadline ≤ st.moment + LEASE_TIME) leases
ends_last st [] h = tt
ends_last st (lease ∷ leases) h = (h.0.deadline, ends_last st leases h.1)

-- what the disk holds and what is in doubt doesn't matter
pub unchanged : (st : State) (doubt : Option Revision) (shelf : Shelf) (loose : ObjectId → Bool) → AreLeases st → AreLeases (record st { doubt = doubt; shelf = shelf; loose = loose })
unchanged st doubt shelf loose h = same st _ (record { epoch = refl; next = omega arith; moment = omega arith }) refl h

-- a lease that overlaps none is granted
pub granted_apart : (st : State) (key : List ℕ) (p : Path) (head : Revision) → AreLeases st → ends_in marker p ≡ false → busy st.leases p ≡ None → length st.leases < LEASE_LIMIT
    → AreLeases (record st { leases = st.leases ++ granted st key p head ∷ []; next = st.next + 1 })
granted_apart st key p head h unmarked free few =
    let lease : Lease = granted st key p head in
    let after : State = record st { leases = st.leases ++ lease ∷ []; next = st.next + 1 } in
    let goes : Later st after = record { epoch = refl; next = omega arith; moment = omega arith } in
    let is : IsGranted after lease = record { epoch = refl; number = omega arith; deadline = omega arith } in
    record {
      table = table_push st.leases lease h.table unmarked free few (is_new st st.leases h.granted) (ends_last st st.leases h.granted);
      granted = all_push _ st.leases lease (later st after goes st.leases h.granted) is;
    }

pub by_effect : {Asked : Revision → Type 0} {Wants : List ℕ → Path → Type 0} {Sends : List Object → Type 0} (st : State) (r : Reply) (st' : State) → AreLeases st → Effect Asked Wants Sends st r st' → AreLeases st'
by_effect st r st' h (nothing q e) = subst AreLeases (sym e) h
by_effect st r st' h (gains objects hashed q g) = subst AreLeases (sym g.others) (unchanged st _ _ _ h)
by_effect st r st' h (stores objects hashed q g) = subst AreLeases (sym g.others) (unchanged st _ _ _ h)
by_effect st r st' h (grants key p head w g held e s) = subst AreLeases (sym s) (granted_apart st key p head h g.unmarked g.clear g.few)
by_effect st r st' h (cancels token e s) = subst AreLeases (sym s) (filtered _ st _ (record { epoch = refl; next = omega arith; moment = omega arith }) refl h)
by_effect st r st' h (publishes new asked sent e stored g s) =
    let there : AreLeases stored = subst AreLeases (sym g.others) (unchanged st _ _ _ h) in
    subst AreLeases (sym s) (filtered _ stored _ (record { epoch = refl; next = omega arith; moment = omega arith }) refl there)
by_effect st r st' h (wavers new asked sent e stored g s) =
    let there : AreLeases stored = subst AreLeases (sym g.others) (unchanged st _ _ _ h) in
    subst AreLeases (sym s) (unchanged stored _ _ _ there)

pub by_settling : (st settled : State) → AreLeases st → Settled st settled → AreLeases settled
by_settling st settled h (certain calm e) = subst AreLeases (sym e) h
by_settling st settled h (unmade new is e) = subst AreLeases (sym e) (unchanged st _ _ _ h)
by_settling st settled h (published new is e) = subst AreLeases (sym e) (filtered _ st _ (record { epoch = refl; next = omega arith; moment = omega arith }) refl h)

pub by_ageing : (st : State) (now : ℕ) → AreLeases st → AreLeases (aged st now)
by_ageing st now h = filtered _ st _ (record { epoch = refl; next = omega arith; moment = omega arith }) refl h

by_step : (st : State) (o : Op) (e : Entry) (st' : State) → Step st o e st' → AreLeases st → AreLeases st'
by_step st o e st' s h = elim s.does [
  | inl w ↦ subst AreLeases (sym w.same) h
  | inr g ↦ by_effect (aged g.settled e.now) e.reply st' (by_ageing g.settled e.now (by_settling st g.settled h g.settles)) (of_act (aged g.settled e.now) o e st' s.op s.records g.acts)
]

pub by_run : (st : State) (entries : List Entry) (st' : State) → Run st entries st' → AreLeases st → AreLeases st'
by_run st [] st' r h = subst AreLeases (sym r) h
by_run st (e ∷ entries) st' r h = by_run r.1 entries st' r.3 (by_step st r.0 e r.1 r.2 h)
