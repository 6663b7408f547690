-- Where no refusal's condition holds the op is done, unless a fault comes.
use Rattle.std.proofs.Common.{◌≡◌, ◌⊎◌, ℕ, Bool, true, false, List, refl, sym, ap, subst, ◌∙◌, inl, inr, arith}
use Rattle.std.specs.Prelude.{bytes_eq}
use Rattle.std.proofs.lemmas.Option.{same_Some}
use Rattle.std.specs.declared.option.Option.TheVariants.{Some}
use Rattle.cv_base.specs.Path.{Path}
use Rattle.cv_base.specs.declared.token.Token.{Token}
use Rattle.cv_ports.specs.Shelf.{Shelf}
use Rattle.cv_tree.specs.Tree.{Nodes}
use Rattle.cv_tree.specs.Changes.{has_place}
use Rattle.cv_cut.specs.Catalogues.{Fits}
use Rattle.cv_cut.specs.Means.{Means}
use Rattle.cv_leases.specs.declared.lease.Lease.{Lease}
use Rattle.cv_objects.specs.Coming.{ClashesOn}
use Rattle.cv_swap.specs.Kept.{Revision, newest}
use Rattle.cv_gate.specs.State.{State, aged}
use Rattle.cv_gate.specs.Commits.{committed, made}
use Rattle.cv_gate.specs.Passing.{IsFree, Passes}
use Rattle.cv_gate.specs.Step.{IsFault, OnLease, Grants, adds, LeaseStep, Stores, Publishes, collides, fails, commits, doubts, Commits, Cancels, takes, Acts, Waits, Goes, Step}
use Rattle.cv_gate.specs.Completeness.{IsOwn, Unopposed, IsDone}
use Rattle.cv_gate.specs.declared.op.Op.{Op}
use Rattle.cv_gate.specs.declared.op.Op.TheVariants as op
use Rattle.cv_gate.specs.declared.reply.Reply.{Reply}
use Rattle.cv_gate.specs.declared.reply.Reply.TheVariants as reply
use Rattle.cv_gate.specs.declared.entry.Entry.{Entry}

abbrev Done : Reply → Reply → Type 0
Done r wanted = (r ≡ wanted) ⊎ IsFault r

no : {b c : Bool} {X : Type 0} → b ≡ c → b ≡ true → c ≡ false → X
no e t f = absurd cc

-- ---- a lease

of_grants : (st : State) (key : List ℕ) (p : Path) (r : Reply) (st' : State) (head : Revision) → newest st.history ≡ Some head → Grants st key p r st'
    → r ≡ reply.Granted (record { epoch = st.epoch; number = st.next }) head.record_.revision head.record_.root
of_grants st key p r st' head is_newest (adds other free is e) =
    let same : other ≡ head = same_Some _ _ (sym free.is_newest ∙ is_newest) in
    is ∙ ap (λ (x : Revision). reply.Granted (record { epoch = st.epoch; number = st.next }) x.record_.revision x.record_.root) same

of_lease : (st : State) (key : List ℕ) (p : Path) (r : Reply) (st' : State) (head : Revision) → IsFree st p head → LeaseStep st key p r st'
    → Done r (reply.Granted (record { epoch = st.epoch; number = st.next }) head.record_.revision head.record_.root)
of_lease st key p r st' head free h =
    let few = free.few in
    elim h [
      | inl marked ↦ no refl marked.0 free.unmarked
      | inr w ↦ elim w.1 [
        | inl busy ↦ (let clear = free.clear in let other = busy.1 in absurd cc)
        | inr w2 ↦ elim w2.1 [
          | inl many ↦ (let full = many.0 in absurd (omega (arith, few, full)))
          | inr w3 ↦ elim w3.1 [
            | inl fault ↦ inr fault.0
            | inr w4 ↦ elim w4.2 [
              | inl astray ↦
                  let same : w4.0 ≡ head = same_Some _ _ (sym w4.1 ∙ free.is_newest) in
                  no (ap (λ (x : Revision). has_place x.tree p) (sym same)) free.place astray.0
              | inr w5 ↦ inl (of_grants st key p r st' head free.is_newest w5.1)
            ]
          ]
        ]
      ]
    ]

-- ---- what is asked of a lease

of_own : (st : State) (key : List ℕ) (token : Token) (r : Reply) (st' : State) (does : Lease → Type 0) (own : IsOwn st key token) → OnLease st key token r st' does → does own.lease
of_own st key token r st' does own h =
    let live = own.live in
    elim h [
      | inl unknown ↦ (let none = unknown.0 in absurd cc)
      | inr w ↦
          let same : w.1.0 ≡ own.lease = same_Some _ _ (sym w.1.1 ∙ live) in
          elim w.1.2 [
            | inl foreign ↦ no (ap (λ (x : Lease). bytes_eq x.key key) (sym same)) own.own foreign.0
            | inr w2 ↦ subst does same w2.1
          ]
    ]

of_cancels : (st : State) (token : Token) (r : Reply) (st' : State) → Cancels st token r st' → r ≡ reply.Cancelled
of_cancels st token r st' (takes is e) = is

-- ---- a commit

module _ (st : State) (key : List ℕ) (token : Token) (old_root new_root tag : List ℕ) (r : Reply) (st' : State) (new : Revision) (p : Passes st key token old_root new_root tag new) where
  of_end : (other : Revision) → other ≡ new → Publishes st key token old_root new_root tag other r st' → Done r (reply.Committed new.record_.revision new.record_.root)
  of_end other same (collides id c is g) = absurd (p.apart id (subst (λ (x : Revision). ClashesOn st.shelf (made x) id) same c))
  of_end other same (fails fault g) = inr fault
  of_end other same (commits passes is stored g e) = inl (is ∙ ap (λ (x : Revision). reply.Committed x.record_.revision x.record_.root) same)
  of_end other same (doubts passes is stored g e) = inr (inl is)

  of_commits : ((shelf : Shelf) (root : List ℕ) (t u : Nodes) → Means shelf root t → Means shelf root u → t ≡ u) → Commits st key token old_root new_root tag r st' p.lease
      → Done r (reply.Committed new.record_.revision new.record_.root)
  of_commits one d =
      let head_is : d.0 ≡ p.head = same_Some _ _ (sym d.1 ∙ p.is_newest) in
      elim d.2 [
        | inl full ↦
            let room = p.room in
            let many = full.0 in
            let number : d.0.record_.revision ≡ p.head.record_.revision = ap (λ (x : Revision). x.record_.revision) head_is in
            absurd (omega (arith, room, many, number))
        | inr w ↦ elim w.1 [
          | inl stale ↦ no refl p.base stale.0
          | inr w2 ↦ elim w2.1 [
            | inl taken ↦ absurd (p.free taken.0 taken.1)
            | inr w3 ↦ elim w3.1 [
              | inl fault ↦ inr fault.0
              | inr w4 ↦ elim w4 [
                | inl none ↦ absurd (none.none p.offered p.means)
                | inr n ↦
                    let tree_is : n.0 ≡ p.offered = one st.shelf new_root n.0 p.offered n.1 p.means in
                    let same : committed st.moment d.0 p.lease n.0 new_root tag ≡ new = (λ i. committed st.moment (head_is i) p.lease (tree_is i) new_root tag) ∙ sym p.is in
                    let fits : Fits (committed st.moment d.0 p.lease n.0 new_root tag).tree = subst (λ (x : Revision). Fits x.tree) (sym same) p.fits in
                    elim n.2 [
                      | inl shared ↦ absurd (fits.apart shared.0.0 shared.0.1 shared.1)
                      | inr w5 ↦ elim w5.1 [
                        | inl full ↦ absurd (fits.limits full.0 full.1)
                        | inr w6 ↦ of_end (committed st.moment d.0 p.lease n.0 new_root tag) same w6.1
                      ]
                    ]
              ]
            ]
          ]
        ]
      ]

-- ---- any op

of_acts : (st : State) (o : Op) (e : Entry) (st' : State) (r : Reply) → ((shelf : Shelf) (root : List ℕ) (t u : Nodes) → Means shelf root t → Means shelf root u → t ≡ u) → Unopposed st o r → Acts st o e st' → IsDone o e.reply r
of_acts st (op.Lease key path) e st' r one h a = elim a [
  | inl lacks ↦ inr (inr lacks.0)
  | inr d ↦ subst (Done e.reply) (sym h.2) (of_lease st key path e.reply st' h.0 h.1 d)
]
of_acts st (op.Store key token digest batch) e st' r one h a = elim a.2 [
  | inl lacks ↦ inr (inr lacks.0)
  | inr d ↦ elim (of_own st key token e.reply st' (λ lease. Stores st batch e.reply st') h.0 d.1) [
    | inl fault ↦ inr fault.0
    | inr n ↦ elim n [
      | inl clash ↦ absurd (h.1 clash.0 clash.1)
      | inr w ↦ inl (w.1.0 ∙ sym h.2)
    ]
  ]
]
of_acts st (op.Commit key token old_root new_root tag) e st' r one h a = elim a [
  | inl lacks ↦ inr (inr lacks.0)
  | inr d ↦
      let p = h.1 in
      let its : IsOwn st key token = record { lease = p.lease; live = p.live; own = p.own } in
      subst (Done e.reply) (sym h.2) (of_commits st key token old_root new_root tag e.reply st' h.0 p one
      (of_own st key token e.reply st' (Commits st key token old_root new_root tag e.reply st') its d))
]
of_acts st (op.Cancel key token) e st' r one h a =
    of_cancels st token e.reply st' (of_own st key token e.reply st' (λ lease. Cancels st token e.reply st') h.0 a) ∙ sym h.1

pub completes : (st : State) (o : Op) (e : Entry) (st' : State) → ((shelf : Shelf) (root : List ℕ) (t u : Nodes) → Means shelf root t → Means shelf root u → t ≡ u) → Step st o e st'
    → Waits st e st' ⊎ ((came : Goes st o e st') × ((r : Reply) → Unopposed (aged came.settled e.now) o r → IsDone o e.reply r))
completes st o e st' one s = elim s.does [
  | inl w ↦ inl w
  | inr g ↦ inr (g, λ r wanted. of_acts (aged g.settled e.now) o e st' r one wanted g.acts)
]
