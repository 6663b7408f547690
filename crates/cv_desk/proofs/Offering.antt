-- What is made of the offered tree, as the gate's step has it.
use Rattle.std.proofs.Common.{◌≡◌, ◌⊎◌, true, ℕ, List, refl, sym, subst, ◌∙◌, inl, inr, arith}
use Rattle.std.specs.Prelude.{bytes_eq}
use Rattle.std.specs.declared.option.Option.TheVariants.{Some}
use Rattle.cv_base.specs.Path.{Path}
use Rattle.cv_base.specs.declared.id.ObjectId.{ObjectId}
use Rattle.cv_base.specs.declared.token.Token.{Token}
use Rattle.cv_ports.specs.Shelf.{IsShelf, HasOtherDigest}
use Rattle.cv_tree.specs.Tree.{Nodes}
use Rattle.cv_tree.specs.Changes.{has_place}
use Rattle.cv_cut.specs.Above.{replaced}
use Rattle.cv_cut.specs.Catalogues.{SharesKey, IsFull, Fits}
use Rattle.cv_cut.specs.Means.{Means}
use Rattle.cv_cut.specs.Opening.{MayFail as MayFailThere}
use Rattle.cv_cut.specs.declared.load_fault.LoadFault.{LoadFault}
use Rattle.cv_cut.specs.declared.load_fault.LoadFault.TheVariants as load
use Rattle.cv_load.proofs.Lemmas.{a_tree_is_meant, none_lacking, none_bad}
use Rattle.cv_graft.specs.Graft.{grafted_of}
use Rattle.cv_graft.specs.declared.grafted.Grafted.{Grafted}
use Rattle.cv_history.specs.declared.record.Record.{Record}
use Rattle.cv_leases.specs.Leases.{lease_of}
use Rattle.cv_leases.specs.declared.lease.Lease.{Lease}
use Rattle.cv_objects.specs.Coming.{ClashesOn}
use Rattle.cv_swap.specs.Kept.{Revision, newest, head_of, head_with}
use Rattle.cv_gate.specs.State.{State}
use Rattle.cv_gate.specs.Commits.{committed, made}
use Rattle.cv_gate.specs.Passing.{Passes}
use Rattle.cv_gate.specs.Step.{MayFail, MeansNone, Refuses, Publishes, Commits}
use Rattle.cv_gate.specs.declared.reply.Reply.{Reply}
use Rattle.cv_gate.specs.declared.reply.Reply.TheVariants as reply
use Rattle.cv_desk.specs.Committing.{reply_at, WhyUnfit, shares, fills, IsUnfit, outside, meaningless, damaged, unfit, IsFit, next_record}
use Rattle.cv_desk.proofs.Opposing.{IsUnopposed}

module _ (st : State) (head : Revision) (lease : Lease) (key : List ℕ) (token : Token) (old_root offered tag : List ℕ) (is : newest st.history ≡ Some head) (hashes : IsShelf st.shelf)
    (means : Means st.shelf head.record_.root head.tree) (place : has_place head.tree lease.path ≡ true) (free : IsUnopposed st.history head lease.from_revision old_root tag) where
  -- the revision that a commit of the offered tree n makes
  abbrev new_with : Nodes → Revision
  new_with n = committed st.moment head lease n offered tag

  -- what is left of the step behind what the revisions say
  abbrev Rest : Reply → State → Type 0
  Rest r st' = MayFail st r st' (MeansNone st offered r st' ⊎ ((n : Nodes) × Means st.shelf offered n × (
      Refuses st r st' (λ (pq : Path × Path). SharesKey (new_with n).tree pq.0 pq.1) (λ pq. reply.PathCollision pq.0 pq.1) (
      Refuses st r st' (IsFull (new_with n).tree) reply.CatalogueFull (
      Publishes st key token old_root offered tag (new_with n) r st')))))

  on_rest : (r : Reply) (st' : State) → Rest r st' → Commits st key token old_root offered tag r st' lease
  on_rest r st' rest = (head, is, inr ((λ full. (let room = free.room in omega (arith, full, room))), inr ((λ stale. (let base = free.base in cc)), inr (free.free, rest))))

  -- ---- no tree is made of it

  no_damage : (id : ObjectId) (found : List ℕ) → HasOtherDigest st.shelf id found → ⊥
  no_damage id found d = d.other (d.digest ∙ sym (hashes.hash id d.bytes d.there))

  means_none : (fault : LoadFault) → MayFailThere st.shelf offered fault → Rest (reply_at fault) st
  means_none (load.Missing id) lacks = inr (inl (record { none = λ n m. none_lacking m id lacks; id = id; why = inl (refl, lacks); same = refl }))
  means_none (load.Bad id) bad = inr (inl (record { none = λ n m. none_bad m id bad; id = id; why = inr (refl, bad); same = refl }))
  means_none load.Failed may = inl (inl refl, refl)
  means_none (load.Damaged id found) d = absurd (no_damage id found d.damage)
  means_none load.NoMemory may = inl (inr refl, refl)

  refuses : (n : Nodes) (r : Reply) → WhyUnfit (replaced head.tree n lease.path) r → Refuses st r st (λ (pq : Path × Path). SharesKey (new_with n).tree pq.0 pq.1) (λ pq. reply.PathCollision pq.0 pq.1)
      (Refuses st r st (IsFull (new_with n).tree) reply.CatalogueFull (Publishes st key token old_root offered tag (new_with n) r st))
  refuses n r (shares a b s e) = inl ((a, b), s, e, refl)
  refuses n r (fills c full none e) = inr ((λ pq s. none pq.0 pq.1 s), inl (c, full, e, refl))

  pub unfit_step : (r : Reply) → IsUnfit st.shelf head.record_.root offered lease.path r → Commits st key token old_root offered tag r st lease
  unfit_step r (outside fault) = on_rest r st (inl (fault, refl))
  unfit_step r (meaningless fault may e) = on_rest r st (subst (λ x. Rest x st) (sym e) (means_none fault may))
  unfit_step r (damaged id found on d e) = absurd (no_damage id found d)
  unfit_step r (unfit whole both placed why) =
      let n = a_tree_is_meant st.shelf offered hashes whole in
      on_rest r st (inr (inr (n.0, n.1, refuses n.0 r (why head.tree n.0 means n.1 place))))

  -- ---- the new tree fits

  module _ (g : Grafted) (fit : IsFit st.shelf head.record_.root offered lease.path g) where
    pub meant : (n : Nodes) × Means st.shelf offered n
    meant = a_tree_is_meant st.shelf offered hashes fit.good

    abbrev pub new : Revision
    new = new_with meant.0

    pub grafts : Fits new.tree × (g ≡ grafted_of new.tree lease.path)
    grafts = fit.grafts head.tree meant.0 means meant.1 place

    -- its record, and its head
    pub record_is : lease.key ≡ key → next_record (head_of head) lease key st.moment g offered tag ≡ new.record_
    record_is own = λ i. next_record (head_of head) lease (sym own i) st.moment (grafts.1 i) offered tag

    pub head_is_of : (r : Record) → r ≡ new.record_ → head_with r g.size ≡ head_of new
    head_is_of r e = λ i. head_with (e i) (grafts.1 i).size

    pub fit_step : (r : Reply) (st' : State) → Publishes st key token old_root offered tag new r st' → Commits st key token old_root offered tag r st' lease
    fit_step r st' end = on_rest r st' (inr (inr (meant.0, meant.1, inr ((λ pq s. grafts.0.apart pq.0 pq.1 s), inr ((λ c full. grafts.0.limits c full), end)))))

    pub passes : lease_of token st.leases ≡ Some lease → bytes_eq lease.key key ≡ true → ((id : ObjectId) → ClashesOn st.shelf (made new) id → ⊥) → Passes st key token old_root offered tag new
    passes live own apart = record {
      lease = lease;
      live = live;
      own = own;
      head = head;
      is_newest = is;
      room = free.room;
      base = free.base;
      free = free.free;
      offered = meant.0;
      means = meant.1;
      is = refl;
      fits = grafts.0;
      apart = apart;
    }
