-- What an op does in a settled, aged state, whatever was asked.
use Rattle.std.proofs.Common.{◌≡◌, ◌⊎◌, ◌+◌, ℕ, true, false, List, [], ◌∷◌, ◌++◌, refl, sym, ap, subst, ◌∙◌, inl, inr}
use Rattle.std.specs.declared.option.Option.TheVariants.{None, Some}
use Rattle.std.specs.Prelude.{reverse}
use Rattle.std.specs.List.{AllByRecursion, Contains}
use Rattle.sha1.specs.Sha1.{sha1}
use Rattle.cv_base.specs.Path.{Path, IsPath}
use Rattle.cv_base.specs.declared.id.ObjectId.{ObjectId}
use Rattle.cv_base.specs.declared.object.Object.{Object}
use Rattle.cv_base.specs.declared.token.Token.{Token}
use Rattle.cv_base.proofs.Laws.{bytes_are, bytes_eq-own}
use Rattle.cv_tree.specs.Tree.{Nodes}
use Rattle.cv_cut.specs.Above.{cuts_above}
use Rattle.cv_cut.specs.Catalogues.{Fits}
use Rattle.cv_cut.specs.Cut.{catalogue_object}
use Rattle.cv_cut.specs.Means.{Means}
use Rattle.cv_cut.proofs.Lemmas.{none_there, first_or_later, comes_from}
use Rattle.cv_leases.specs.Leases.{lease_of, without}
use Rattle.cv_leases.specs.declared.lease.Lease.{Lease}
use Rattle.cv_leases.proofs.Laws.{lease_of_token}
use Rattle.cv_base.specs.Objects.{AreNamed}
use Rattle.cv_objects.specs.Coming.{ClashesOn}
use Rattle.cv_swap.specs.Kept.{Revision, newest, record_object}
use Rattle.cv_gate.specs.State.{State, with_revision}
use Rattle.cv_gate.specs.Objects.{GainsSome, GainsAll}
use Rattle.cv_gate.specs.Commits.{committed, made}
use Rattle.cv_gate.specs.Passing.{granted, IsFree, Passes, MakesNew}
use Rattle.cv_gate.specs.Step.{Refuses, RefusesIf, IsFault, MayFail, Grants, adds, LeaseStep, OnLease, Stores, StoreStep, Publishes, collides, fails, commits, doubts, Commits, CommitStep, Cancels, takes, CancelStep, Acts, Records, is_key_id, IsSent, IsValid}
use Rattle.cv_gate.specs.Sound.{IsHeld}
use Rattle.cv_gate.specs.Kept.{BringsObjects, whole, makes}
use Rattle.cv_gate.specs.Laws.{is_committed, token_given, IsAsked}
use Rattle.cv_gate.specs.declared.op.Op.{Op}
use Rattle.cv_gate.specs.declared.op.Op.TheVariants as op
use Rattle.cv_gate.specs.declared.act.Act.TheVariants as act
use Rattle.cv_gate.specs.declared.reply.Reply.{Reply}
use Rattle.cv_gate.specs.declared.reply.Reply.TheVariants as reply
use Rattle.cv_gate.specs.declared.entry.Entry.{Entry}

-- the reply tells neither of a lease nor of a revision
pub record IsQuiet (r : Reply) : Type 0 where
  pub no_revision : is_committed r ≡ false
  pub no_token : token_given r ≡ None

-- the op is a commit that may be asked and that passes, and makes the revision, for which the entry asked
pub record IsPublished (st : State) (o : Op) (e : Entry) (new : Revision) : Type 0 where
  pub valid : IsValid o
  pub makes_new : MakesNew st o new
  pub asked : IsAsked e new

-- the entry asked for a lease on the path
pub record IsWanted (e : Entry) (key : List ℕ) (p : Path) : Type 0 where
  pub key_ : e.key ≡ key
  pub is : e.act ≡ act.Lease p

pub data Effect (Asked : Revision → Type 0) (Wants : List ℕ → Path → Type 0) (Sends : List Object → Type 0) (st : State) (r : Reply) (st' : State) : Type 0 where
  nothing : IsQuiet r → st' ≡ st → Effect Asked Wants Sends st r st'
  gains : (objects : List Object) → Sends objects → IsQuiet r → GainsSome objects st st' → Effect Asked Wants Sends st r st'
  stores : (objects : List Object) → Sends objects → IsQuiet r → GainsAll objects st st' → Effect Asked Wants Sends st r st'
  grants : (key : List ℕ) (p : Path) (head : Revision) → Wants key p → IsFree st p head → IsHeld (granted st key p head)
      → r ≡ reply.Granted (record { epoch = st.epoch; number = st.next }) head.record_.revision head.record_.root
      → st' ≡ record st { leases = st.leases ++ granted st key p head ∷ []; next = st.next + 1 } → Effect Asked Wants Sends st r st'
  cancels : (token : Token) → r ≡ reply.Cancelled → st' ≡ record st { leases = without token st.leases } → Effect Asked Wants Sends st r st'
  publishes : (new : Revision) → Asked new → Sends (made new) → r ≡ reply.Committed new.record_.revision new.record_.root
      → (stored : State) → GainsAll (made new) st stored → st' ≡ with_revision stored new → Effect Asked Wants Sends st r st'
  wavers : (new : Revision) → Asked new → Sends (made new) → r ≡ reply.StoreFailed
      → (stored : State) → GainsAll (made new) st stored → st' ≡ record stored { doubt = Some new } → Effect Asked Wants Sends st r st'

pub quiet_fault : (r : Reply) → IsFault r → IsQuiet r
quiet_fault r (inl e) = record { no_revision = ap is_committed e; no_token = ap token_given e }
quiet_fault r (inr e) = record { no_revision = ap is_committed e; no_token = ap token_given e }

module _ {Asked : Revision → Type 0} {Wants : List ℕ → Path → Type 0} {Sends : List Object → Type 0} {st : State} {r : Reply} {st' : State} where
  quiet : {say : Reply} → IsQuiet say → r ≡ say → st' ≡ st → Effect Asked Wants Sends st r st'
  quiet q e same = nothing (record { no_revision = ap is_committed e ∙ q.no_revision; no_token = ap token_given e ∙ q.no_token }) same

  refused_or : {X : Type 0} {P : X → Type 0} {say : X → Reply} {rest : Type 0} → ((x : X) → IsQuiet (say x)) → Refuses st r st' P say rest → Effect Asked Wants Sends st r st' ⊎ (((x : X) → P x → ⊥) × rest)
  refused_or q (inl w) = inl (quiet (q w.0) w.2 w.3)
  refused_or q (inr w) = inr w

  refused_if_or : {P : Type 0} {say : Reply} {rest : Type 0} → IsQuiet say → RefusesIf st r st' P say rest → Effect Asked Wants Sends st r st' ⊎ ((P → ⊥) × rest)
  refused_if_or q (inl w) = inl (quiet q w.1 w.2)
  refused_if_or q (inr w) = inr w

  failed_or : {rest : Type 0} → MayFail st r st' rest → Effect Asked Wants Sends st r st' ⊎ rest
  failed_or (inl w) = inl (nothing (quiet_fault r w.0) w.1)
  failed_or (inr w) = inr w

is_quiet : {r : Reply} → is_committed r ≡ false → token_given r ≡ None → IsQuiet r
is_quiet a b = record { no_revision = a; no_token = b }

of_grant : {Asked : Revision → Type 0} {Wants : List ℕ → Path → Type 0} {Sends : List Object → Type 0} (st : State) (key : List ℕ) (p : Path) (r : Reply) (st' : State) → Wants key p → is_key_id key ≡ true → IsPath p → Grants st key p r st' → Effect Asked Wants Sends st r st'
of_grant st key p r st' wants id path (adds head free is s) = grants key p head wants free (record { key = id; path = path }) is s

of_lease : {Asked : Revision → Type 0} {Wants : List ℕ → Path → Type 0} {Sends : List Object → Type 0} (st : State) (key : List ℕ) (p : Path) (r : Reply) (st' : State) → Wants key p → is_key_id key ≡ true → IsPath p → LeaseStep st key p r st' → Effect Asked Wants Sends st r st'
of_lease st key p r st' wants id path h =
    elim (refused_if_or (is_quiet refl refl) h) [
      | inl e ↦ e
      | inr w ↦ elim (refused_or (λ _. is_quiet refl refl) w.1) [
        | inl e ↦ e
        | inr w2 ↦ elim (refused_if_or (is_quiet refl refl) w2.1) [
          | inl e ↦ e
          | inr w3 ↦ elim (failed_or w3.1) [
            | inl e ↦ e
            | inr w4 ↦ elim (refused_if_or (is_quiet refl refl) w4.2) [
              | inl e ↦ e
              | inr w5 ↦ of_grant st key p r st' wants id path w5.1
            ]
          ]
        ]
      ]
    ]

on_lease : {Asked : Revision → Type 0} {Wants : List ℕ → Path → Type 0} {Sends : List Object → Type 0} (st : State) (key : List ℕ) (token : Token) (r : Reply) (st' : State) (does : Lease → Type 0)
    → ((lease : Lease) → lease_of token st.leases ≡ Some lease → does lease → Effect Asked Wants Sends st r st') → OnLease st key token r st' does → Effect Asked Wants Sends st r st'
on_lease st key token r st' does then h =
    elim (refused_if_or (is_quiet refl refl) h) [
      | inl e ↦ e
      | inr w ↦ elim (refused_if_or (is_quiet refl refl) w.1.2) [
        | inl e ↦ e
        | inr w2 ↦ then w.1.0 w.1.1 w2.1
      ]
    ]

hashed_batch : (batch : List Object) → AllByRecursion IsSent batch → AreNamed batch
hashed_batch batch sent = record { each = λ object has. ap (λ (id : ObjectId). id.hash) (among batch sent object has).0 }
  where
    among : (batch : List Object) → AllByRecursion IsSent batch → (object : Object) → Contains batch object → IsSent object
    among [] sent object has = absurd (none_there object has)
    among (first ∷ batch) sent object has = elim (first_or_later first batch object has) [
      | inl same ↦ subst IsSent same sent.0
      | inr later ↦ among batch sent.1 object later
    ]

pub hashed_made : (new : Revision) → AreNamed (made new)
hashed_made new = record {
  each = λ object has. elim (first_or_later (record_object new) _ object has) [
    | inl same ↦ subst (λ (o : Object). o.id.hash ≡ sha1 o.bytes) same refl
    | inr later ↦
        let from = comes_from (catalogue_object new.tree) (reverse (cuts_above new.tree new.record_.path)) object later in
        subst (λ (o : Object). o.id.hash ≡ sha1 o.bytes) from.2 refl
  ];
}

of_store : {Asked : Revision → Type 0} {Wants : List ℕ → Path → Type 0} {Sends : List Object → Type 0} (st : State) (key : List ℕ) (token : Token) (batch : List Object) (r : Reply) (st' : State) → Sends batch → StoreStep st key token batch r st' → Effect Asked Wants Sends st r st'
of_store st key token batch r st' sent h = on_lease st key token r st' (λ lease. Stores st batch r st') (λ lease t d. elim d [
  | inl f ↦ gains batch sent (quiet_fault r f.0) f.1
  | inr n ↦ elim (refused_or (λ _. is_quiet refl refl) n) [
    | inl e ↦ e
    | inr w ↦ stores batch sent (is_quiet (ap is_committed w.1.0) (ap token_given w.1.0)) w.1.1
  ]
]) h

of_takes : {Asked : Revision → Type 0} {Wants : List ℕ → Path → Type 0} {Sends : List Object → Type 0} (st : State) (token : Token) (r : Reply) (st' : State) → Cancels st token r st' → Effect Asked Wants Sends st r st'
of_takes st token r st' (takes is s) = cancels token is s

of_cancel : {Asked : Revision → Type 0} {Wants : List ℕ → Path → Type 0} {Sends : List Object → Type 0} (st : State) (key : List ℕ) (token : Token) (r : Reply) (st' : State) → CancelStep st key token r st' → Effect Asked Wants Sends st r st'
of_cancel st key token r st' h = on_lease st key token r st' (λ lease. Cancels st token r st') (λ lease t d. of_takes st token r st' d) h

module _ {Asked : Revision → Type 0} {Wants : List ℕ → Path → Type 0} {Sends : List Object → Type 0} (st : State) (key : List ℕ) (token : Token) (old_root new_root tag : List ℕ) (r : Reply) (st' : State) where
  of_end : (new : Revision) → (Passes st key token old_root new_root tag new → Asked new) → Sends (made new) → Publishes st key token old_root new_root tag new r st' → Effect Asked Wants Sends st r st'
  of_end new asked sent (collides id c e g) = gains (made new) sent (is_quiet (ap is_committed e) (ap token_given e)) g
  of_end new asked sent (fails f g) = gains (made new) sent (quiet_fault r f) g
  of_end new asked sent (commits p e stored g s) = publishes new (asked p) sent e stored g s
  of_end new asked sent (doubts p e stored g s) = wavers new (asked p) sent e stored g s

  of_commit : ((new : Revision) → Passes st key token old_root new_root tag new → Asked new)
      → ((lease : Lease) (head : Revision) (n : Nodes) → lease_of token st.leases ≡ Some lease → newest st.history ≡ Some head → Means st.shelf new_root n → Sends (made (committed st.moment head lease n new_root tag)))
      → CommitStep st key token old_root new_root tag r st' → Effect Asked Wants Sends st r st'
  of_commit asked sent h = on_lease st key token r st' (Commits st key token old_root new_root tag r st') (λ lease t d.
      elim (refused_if_or (is_quiet refl refl) d.2) [
        | inl e ↦ e
        | inr w ↦ elim (refused_if_or (is_quiet refl refl) w.1) [
          | inl e ↦ e
          | inr w2 ↦ elim (refused_or (λ _. is_quiet refl refl) w2.1) [
            | inl e ↦ e
            | inr w3 ↦ elim (failed_or w3.1) [
              | inl e ↦ e
              | inr w4 ↦ elim w4 [
                | inl none ↦ elim none.why [ inl m ↦ quiet (is_quiet refl refl) m.0 none.same | inr m ↦ quiet (is_quiet refl refl) m.0 none.same ]
                | inr n ↦ elim (refused_or (λ _. is_quiet refl refl) n.2) [
                  | inl e ↦ e
                  | inr w5 ↦ elim (refused_or (λ _. is_quiet refl refl) w5.1) [
                    | inl e ↦ e
                    | inr w6 ↦
                        let new : Revision = committed st.moment d.0 lease n.0 new_root tag in
                        of_end new (asked new) (sent lease d.0 n.0 t d.1 n.1) w6.1
                  ]
                ]
              ]
            ]
          ]
        ]
      ]) h

-- ---- what is said of a commit is said of its revision

-- the op is a commit for the revision's key, token, offered root and tag
pub record IsItsOwn (st : State) (o : Op) (new : Revision) : Type 0 where
  pub old_root : List ℕ
  pub is : o ≡ op.Commit new.record_.key new.record_.token old_root new.record_.offered new.record_.tag
  pub passes : Passes st new.record_.key new.record_.token old_root new.record_.offered new.record_.tag new

pub own : (st : State) (o : Op) (new : Revision) → MakesNew st o new → IsItsOwn st o new
own st (op.Lease key path) new h = absurd h
own st (op.Store key token digest batch) new h = absurd h
own st (op.Commit key token old_root new_root tag) new p =
    let token_is : p.lease.token ≡ token = lease_of_token token st.leases p.lease p.live in
    let key_is : p.lease.key ≡ key = bytes_are p.lease.key key p.own in
    subst (λ (r : Revision). IsItsOwn st (op.Commit key token old_root new_root tag) r) (sym p.is) (record {
      old_root = old_root;
      is = λ i. op.Commit (sym key_is i) (sym token_is i) old_root new_root tag;
      passes = record {
        lease = p.lease;
        live = ap (λ x. lease_of x st.leases) token_is ∙ p.live;
        own = bytes_eq-own p.lease.key;
        head = p.head;
        is_newest = p.is_newest;
        room = p.room;
        base = p.base;
        free = p.free;
        offered = p.offered;
        means = p.means;
        is = refl;
        fits = subst (λ (r : Revision). Fits r.tree) p.is p.fits;
        apart = subst (λ (r : Revision). (id : ObjectId) → ClashesOn st.shelf (made r) id → ⊥) p.is p.apart;
      };
    })
own st (op.Cancel key token) new h = absurd h

asks : (st : State) (e : Entry) (key : List ℕ) (token : Token) (old_root new_root tag : List ℕ) (new : Revision) → Records e (op.Commit key token old_root new_root tag) → Passes st key token old_root new_root tag new → IsAsked e new
asks st e key token old_root new_root tag new recorded p =
    let token_is : p.lease.token ≡ token = lease_of_token token st.leases p.lease p.live in
    let key_is : p.lease.key ≡ key = bytes_are p.lease.key key p.own in
    subst (IsAsked e) (sym p.is) (record {
      key = recorded.0 ∙ sym key_is;
      old_root = old_root;
      is = recorded.1 ∙ ap (λ t. act.Commit t old_root new_root tag) (sym token_is);
    })

-- the objects are those of the op, and each has its hash
pub record AreSent (st : State) (o : Op) (objects : List Object) : Type 0 where
  pub hashed : AreNamed objects
  pub brings : BringsObjects st o objects

pub of_act : (st : State) (o : Op) (e : Entry) (st' : State) → IsValid o → Records e o → Acts st o e st' → Effect (IsPublished st o e) (IsWanted e) (AreSent st o) st e.reply st'
of_act st (op.Lease key path) e st' valid recorded h = elim h [ inl m ↦ quiet (is_quiet refl refl) m.0 m.1 | inr d ↦ of_lease st key path e.reply st' (record { key_ = recorded.0; is = recorded.1 }) valid.0 valid.1 d ]
of_act st (op.Store key token digest batch) e st' valid recorded h = elim h.2 [
  | inl m ↦ quiet (is_quiet refl refl) m.0 m.1
  | inr d ↦ of_store st key token batch e.reply st' (record { hashed = hashed_batch batch valid.0.1; brings = whole }) d.1
]
of_act st (op.Commit key token old_root new_root tag) e st' valid recorded h = elim h [
  | inl m ↦ quiet (is_quiet refl refl) m.0 m.1
  | inr d ↦ of_commit st key token old_root new_root tag e.reply st' (λ new p. record { valid = valid; makes_new = p; asked = asks st e key token old_root new_root tag new recorded p })
      (λ lease head n live is_newest means. record { hashed = hashed_made (committed st.moment head lease n new_root tag); brings = makes lease head n live is_newest means }) d
]
of_act st (op.Cancel key token) e st' valid recorded h = of_cancel st key token e.reply st' h
