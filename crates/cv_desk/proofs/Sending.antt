-- A batch that is sent: from the store's disk to the gate's step.
use Rattle.std.proofs.Common.{◌≡◌, Bool, ℕ, List, [], refl, sym, ap, subst, inl, inr}
use Rattle.std.specs.Prelude.{Vec}
use Rattle.std.specs.declared.option.Option.{Option}
use Rattle.std.specs.declared.result.Result.{Result}
use Rattle.std.specs.declared.result.Result.TheVariants.{Ok, Err}
use Rattle.cv_base.specs.Told.{WhereTold}
use Rattle.cv_base.specs.declared.id.ObjectId.{ObjectId}
use Rattle.cv_base.specs.declared.object.Object.{Object}
use Rattle.cv_ports.specs.Shelf.{Shelf, IsShelf}
use Rattle.cv_vault.specs.Names.{on_way}
use Rattle.cv_vault.specs.Disk.{Disk, Files}
use Rattle.cv_vault.specs.Walks.{Gains, Nothing, Walks}
use Rattle.cv_vault.proofs.Laws.{bind, looser}
use Rattle.cv_objects.specs.Names.{standing_on}
use Rattle.cv_objects.specs.Fresh.{fresh_of}
use Rattle.cv_base.specs.Objects.{AreNamed}
use Rattle.cv_objects.specs.Batches.{Brings, IsOne, ShownIn, IsOutside, AreStored, GivesFresh, Stored}
use Rattle.cv_objects.specs.Coming.{ClashesOn}
use Rattle.cv_objects.specs.declared.store_fault.StoreFault.{StoreFault}
use Rattle.cv_objects.specs.declared.store_fault.StoreFault.TheVariants as fault
use Rattle.cv_objects.proofs.Lemmas.{collision_clashes, damage_is_none, stored_clash}
use Rattle.cv_gate.specs.State.{State}
use Rattle.cv_gate.specs.Objects.{GainsSome}
use Rattle.cv_gate.specs.Step.{Stores, FreshIs}
use Rattle.cv_gate.specs.declared.reply.Reply.{Reply}
use Rattle.cv_gate.specs.declared.reply.Reply.TheVariants as reply
use Rattle.cv_desk.specs.Holds.{Holds}
use Rattle.cv_desk.specs.HoldsInner.{after_failure, after_store}
use Rattle.cv_desk.specs.Sending.{reply_of, IsSent, refused, late, whole}
use Rattle.cv_desk.specs.SentInner.{sent_by}
use Rattle.cv_desk.proofs.Holding.{holds_same, shelf_stands, failed_gains, failed_holds, done_gains, done_holds}

pub gains_none : (batch : List Object) (st : State) → GainsSome batch st st
gains_none batch st = record { shelf = record { each = λ id. inl refl }; loose = λ id lo. inl lo; others = refl }

module _ (name : List ℕ) (is_seal : List ℕ → List ℕ → Bool) (d d' : Disk) (st : State) (batch : List Object) (h : Holds name is_seal d st) (hashes : IsShelf st.shelf) (named : AreNamed batch) where
  known : st.shelf ≡ standing_on d
  known = shelf_stands name is_seal d st h hashes

  -- a collision that is shown is a clash
  pub clash_of : (id : ObjectId) → ShownIn d batch (fault.Collision id) → ClashesOn st.shelf batch id
  clash_of id s = subst (λ (x : Shelf). ClashesOn x batch id) (sym known) (collision_clashes d batch id named s)

  -- nothing is damaged
  pub not_damaged : (id : ObjectId) (found : List ℕ) → ShownIn d batch (fault.Damaged id found) → ⊥
  not_damaged id found s = damage_is_none d batch id found named (subst IsShelf known hashes) s

  -- where all came none clashes
  pub no_clash : Gains on_way (Brings d batch) d d' → AreStored batch d' → (id : ObjectId) → ClashesOn st.shelf batch id → ⊥
  no_clash g all id c = stored_clash d d' batch id named g all (subst (λ (x : Shelf). ClashesOn x batch id) known c)

  -- what the gate's step wants of a batch that was sent
  abbrev Ends : Reply → List ObjectId → Type 0
  Ends r fresh = (st' : State) × Stores st batch r st' × FreshIs st batch r st' fresh × Holds name is_seal d' st' × (st' ≡ record st { shelf = st'.shelf; loose = st'.loose })

  none_came : (x : StoreFault) → ShownIn d batch x → Gains on_way Nothing d d' → Ends (reply_of x) []
  none_came (fault.Collision id) s g = (st, inr (inl (id, clash_of id s, refl, refl)), inr (refl, (λ e. cc), refl), holds_same name is_seal d d' st h g, refl)
  none_came fault.Failed s g = (st, inl (inl refl, gains_none batch st), inr (refl, (λ e. cc), refl), holds_same name is_seal d d' st h g, refl)
  none_came (fault.Damaged id found) s g = absurd (not_damaged id found s)
  none_came fault.NoMemory s g = (st, inl (inr refl, gains_none batch st), inr (refl, (λ e. cc), refl), holds_same name is_seal d d' st h g, refl)

  module _ (g : Gains on_way (Brings d batch) d d') (one : IsOne batch) where
    same_fresh : fresh_of batch (standing_on d) ≡ fresh_of batch st.shelf
    same_fresh = ap (fresh_of batch) (sym known)

    some_came : (x : StoreFault) → IsOutside x → Ends (reply_of x) (fresh_of batch (standing_on d))
    some_came (fault.Collision id) o = absurd o
    some_came fault.Failed o = (after_failure st d', inl (inl refl, failed_gains name is_seal batch d d' st h hashes named g), inl (same_fresh, inr (inl refl)), failed_holds name is_seal batch d d' st h hashes named g one, refl)
    some_came (fault.Damaged id found) o = absurd o
    some_came fault.NoMemory o = (after_failure st d', inl (inr refl, failed_gains name is_seal batch d d' st h hashes named g), inl (same_fresh, inr (inr refl)), failed_holds name is_seal batch d d' st h hashes named g one, refl)

    all_came : AreStored batch d' → Ends reply.Stored (fresh_of batch (standing_on d))
    all_came all = (
      after_store st d',
      inr (inr (no_clash g all, (refl, done_gains name is_seal batch d d' st h hashes named g all))),
      inl (same_fresh, inl refl),
      done_holds name is_seal batch d d' st h hashes named g all,
      refl,
    )

  ends_at : (o out : Reply) (fresh ids : List ObjectId) → o ≡ out → fresh ≡ ids → Ends out ids → Ends o fresh
  ends_at o out fresh ids a b e = rw (a, b) e

  -- however a sending ends, the gate's step of the store ends so, and the disk holds its state
  pub sent_ends : (o : Reply) (fresh : List ObjectId) → Gains on_way (Brings d batch) d d' → IsSent d batch o fresh d' → Ends o fresh
  sent_ends o fresh g (refused x is none s same) = ends_at o (reply_of x) fresh [] is none (none_came x s same)
  sent_ends o fresh g (late x is some out one) = ends_at o (reply_of x) fresh _ is some (some_came g one x out)
  sent_ends o fresh g (whole is some one all) = ends_at o reply.Stored fresh _ is some (all_came g one all)

-- ---- what was done to the vault

module _ {V : Type 0} {disk : V → Option Disk} {count : V → ℕ} {left : V → ℕ → Files → Type 0} (d : Disk) (batch : List Object) (v v1 : V) where
  -- the ids weren't known
  pub unknown : (fault_ : StoreFault) → Walks disk count left on_way Nothing (λ d'. (d' ≡ d) × ShownIn d batch fault_) d v v1 → Walks disk count left on_way (Brings d batch) (IsSent d batch (reply_of fault_) []) d v v1
  unknown fault_ w = looser w (λ n f b. absurd b) (λ d' g is. refused fault_ refl refl is.1 g)

  -- they were, and then the batch was stored or not
  pub known_then : {Z : Type 0} (ids : Vec ObjectId Z) (v2 : V) (r : Result (Unit {0}) StoreFault) → Walks disk count left on_way Nothing (GivesFresh d batch {Z = Z} (Ok ids)) d v v1
      → WhereTold (disk v1) (λ e. Walks disk count left on_way (Brings e batch) (Stored e batch r) e v1 v2)
      → Walks disk count left on_way (Brings d batch) (IsSent d batch (sent_by ids.items r).answer (sent_by ids.items r).fresh) d v v2
  known_then ids v2 r w then = bind w (λ n f b. absurd b) (λ d1 told g is.
      let back : d1 ≡ d = is.0 in
      looser (then d1 told) (λ n f b. subst (λ (x : Disk). Brings x batch n f) back b) (λ d' gains s. by r is.1 is.2 d' (subst (λ (x : Disk). Stored x batch r d') back s)))
    where
      by : (r : Result (Unit {0}) StoreFault) → ids.items ≡ fresh_of batch (standing_on d) → IsOne batch → (d' : Disk) → Stored d batch r d' → IsSent d batch (sent_by ids.items r).answer (sent_by ids.items r).fresh d'
      by (Ok done) fresh one d' s = whole refl fresh one s
      by (Err (fault.Collision id)) fresh one d' s = refused (fault.Collision id) refl refl s.shown s.same
      by (Err fault.Failed) fresh one d' s = late fault.Failed refl fresh tt one
      by (Err (fault.Damaged id found)) fresh one d' s = refused (fault.Damaged id found) refl refl s.shown s.same
      by (Err fault.NoMemory) fresh one d' s = late fault.NoMemory refl fresh tt one
