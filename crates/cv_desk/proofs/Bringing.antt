-- The objects of a commit come to the disk.
use Rattle.std.proofs.Common.{◌≡◌, Bool, ℕ, List, [], ◌∷◌, ◌++◌, refl, sym, subst, inl, inr}
use Rattle.std.specs.Prelude.{map, reverse}
use Rattle.std.specs.List.{Contains}
use Rattle.std.specs.declared.result.Result.{Result}
use Rattle.std.specs.declared.result.Result.TheVariants.{Ok, Err}
use Rattle.std.proofs.lemmas.List.Elements.{Contains-append_left, Contains-append_right, Contains-append_cases}
use Rattle.cv_base.specs.declared.id.ObjectId.{ObjectId}
use Rattle.cv_base.specs.declared.object.Object.{Object}
use Rattle.cv_ports.specs.Shelf.{IsShelf}
use Rattle.cv_vault.specs.Names.{Name, on_way}
use Rattle.cv_vault.specs.Disk.{Disk, File}
use Rattle.cv_vault.specs.Walks.{Gains, Nothing}
use Rattle.cv_cut.specs.Above.{cuts_above}
use Rattle.cv_cut.specs.Cut.{catalogue_object}
use Rattle.cv_graft.specs.Graft.{grafted_of}
use Rattle.cv_graft.specs.declared.grafted.Grafted.{Grafted}
use Rattle.cv_history.specs.declared.record.Record.{Record}
use Rattle.cv_manifest.specs.declared.head.Head.{Head}
use Rattle.cv_base.specs.Objects.{AreNamed}
use Rattle.cv_objects.specs.Batches.{Brings, IsOne, ShownIn, by_one, by_two, by_itself, IsRefused}
use Rattle.cv_objects.specs.Coming.{ClashesOn}
use Rattle.cv_objects.specs.declared.store_fault.StoreFault.{StoreFault}
use Rattle.cv_objects.specs.declared.store_fault.StoreFault.TheVariants as fault
use Rattle.cv_swap.specs.Kept.{Revision, record_object}
use Rattle.cv_swap.specs.Publishing.{Prepared, ArePrepared}
use Rattle.cv_gate.specs.State.{State}
use Rattle.cv_gate.specs.Commits.{made}
use Rattle.cv_gate.specs.Objects.{GainsSome, GainsAll}
use Rattle.cv_gate.specs.Step.{IsFault}
use Rattle.cv_gate.specs.declared.reply.Reply.{Reply}
use Rattle.cv_gate.specs.declared.reply.Reply.TheVariants as reply
use Rattle.cv_gate.proofs.Lemmas.{hashed_made}
use Rattle.cv_desk.specs.Holds.{Holds}
use Rattle.cv_desk.specs.HoldsInner.{after_failure, after_store}
use Rattle.cv_desk.specs.Sending.{reply_of}
use Rattle.cv_desk.specs.Committing.{objects_with}
use Rattle.cv_desk.proofs.Holding.{holds_same, failed_gains, failed_holds, done_gains, done_holds}
use Rattle.cv_desk.proofs.Sending.{gains_none, clash_of, not_damaged, no_clash}

-- ---- in whichever order they are brought

-- the objects that are brought are those that the commit makes
pub record AreSame (xs ys : List Object) : Type 0 where
  pub there : (o : Object) → Contains xs o → Contains ys o
  pub back : (o : Object) → Contains ys o → Contains xs o

turned : (xs : List Object) (x : Object) → AreSame (xs ++ x ∷ []) (x ∷ xs)
turned xs x = record {
  there = λ o among. elim (Contains-append_cases xs (x ∷ []) o among) [ inl a ↦ Contains-append_right (x ∷ []) xs o a | inr b ↦ Contains-append_left (x ∷ []) xs o b ];
  back = λ o among. elim (Contains-append_cases (x ∷ []) xs o among) [ inl a ↦ Contains-append_right xs (x ∷ []) o a | inr b ↦ Contains-append_left xs (x ∷ []) o b ];
}

pub are_same : (g : Grafted) (next : Record) (new : Revision) → g ≡ grafted_of new.tree new.record_.path → next ≡ new.record_ → AreSame (objects_with g next) (made new)
are_same g next new grafted record_ =
    let xs : List Object = map (catalogue_object new.tree) (reverse (cuts_above new.tree new.record_.path)) in
    subst (λ (l : List Object). AreSame l (record_object new ∷ xs)) (λ i. objects_with (sym grafted i) (sym record_ i)) (turned xs (record_object new))

module _ (d : Disk) (xs ys : List Object) (same : AreSame xs ys) where
  pub brings_same : (n : Name) (f : File) → Brings d xs n f → Brings d ys n f
  brings_same n f b = record { object = b.object; among = same.there b.object b.among; one = b.one }

  one_same : IsOne xs → IsOne ys
  one_same one = record { each = λ a b has_a has_b. one.each a b (same.back a has_a) (same.back b has_b) }

  shown_same : (x : StoreFault) → ShownIn d xs x → ShownIn d ys x
  shown_same x (by_one s) = by_one (record { object = s.object; among = same.there s.object s.among; shows = s.shows })
  shown_same _ (by_two c) = by_two (record { a = c.a; b = c.b; has_a = same.there c.a c.has_a; has_b = same.there c.b c.has_b; is_a = c.is_a; is_b = c.is_b; differ = c.differ })
  shown_same x (by_itself o) = by_itself o

  refused_same : (x : StoreFault) (d' : Disk) → IsRefused d xs x d' → IsRefused d ys x d'
  refused_same x d' r = record { shown = shown_same x r.shown; same = r.same }

  pub prepared_same : (manifest : List ℕ) (r : Result Head StoreFault) (d' : Disk) → Prepared d xs manifest r d' → Prepared d ys manifest r d'
  prepared_same manifest (Ok head) d' p = record { sure = p.sure; has = record { each = λ o among. p.has.each o (same.back o among) } }
  prepared_same manifest (Err (fault.Collision id)) d' p = refused_same (fault.Collision id) d' p
  prepared_same manifest (Err fault.Failed) d' p = one_same p
  prepared_same manifest (Err (fault.Damaged id found)) d' p = refused_same (fault.Damaged id found) d' p
  prepared_same manifest (Err fault.NoMemory) d' p = elim p [ inl one ↦ inl (one_same one) | inr none ↦ inr none ]

-- ---- what the state becomes

-- some of them came, or one clashes
pub data Comes (new : Revision) (st : State) (r : Reply) (st' : State) : Type 0 where
  fails : IsFault r → GainsSome (made new) st st' → Comes new st r st'
  clashes : (id : ObjectId) → ClashesOn st.shelf (made new) id → r ≡ reply.Collision id → st' ≡ st → Comes new st r st'

module _ (name : List ℕ) (is_seal : List ℕ → List ℕ → Bool) (d d' : Disk) (st : State) (new : Revision) (h : Holds name is_seal d st) (hashes : IsShelf st.shelf) (g : Gains on_way (Brings d (made new)) d d') (manifest : List ℕ) where
  named : AreNamed (made new)
  named = hashed_made new

  -- only the shelf and what is loose of it changed
  pub record Ends (r : Reply) : Type 0 where
    pub next : State
    pub comes : Comes new st r next
    pub holds : Holds name is_seal d' next
    pub same : next ≡ record st { shelf = next.shelf; loose = next.loose }

  none_came : (r : Reply) → Comes new st r st → Gains on_way Nothing d d' → Ends r
  none_came r comes none = record { next = st; comes = comes; holds = holds_same name is_seal d d' st h none; same = refl }

  some_came : (r : Reply) → IsFault r → IsOne (made new) → Ends r
  some_came r out one = record {
    next = after_failure st d';
    comes = fails out (failed_gains name is_seal (made new) d d' st h hashes named g);
    holds = failed_holds name is_seal (made new) d d' st h hashes named g one;
    same = refl;
  }

  -- it wasn't prepared
  pub unprepared_ends : (x : StoreFault) → Prepared d (made new) manifest {X = Head} (Err x) d' → Ends (reply_of x)
  unprepared_ends (fault.Collision id) p = none_came (reply.Collision id) (clashes id (clash_of name is_seal d d' st (made new) h hashes named id p.shown) refl refl) p.same
  unprepared_ends fault.Failed p = some_came reply.StoreFailed (inl refl) p
  unprepared_ends (fault.Damaged id found) p = absurd (not_damaged name is_seal d d' st (made new) h hashes named id found p.shown)
  unprepared_ends fault.NoMemory p = elim p [
    | inl one ↦ some_came reply.NoMemory (inr refl) one
    | inr none ↦ none_came reply.NoMemory (fails (inr refl) (gains_none (made new) st)) none
  ]

  -- it was: all is on the shelf, and nothing clashes
  module _ (p : ArePrepared (made new) manifest d') where
    pub all_gained : GainsAll (made new) st (after_store st d')
    all_gained = done_gains name is_seal (made new) d d' st h hashes named g (record { calm = p.sure.calm; has = p.has })

    pub all_held : Holds name is_seal d' (after_store st d')
    all_held = done_holds name is_seal (made new) d d' st h hashes named g (record { calm = p.sure.calm; has = p.has })

    pub none_clashes_of : (id : ObjectId) → ClashesOn st.shelf (made new) id → ⊥
    none_clashes_of id c = no_clash name is_seal d d' st (made new) h hashes named g (record { calm = p.sure.calm; has = p.has }) id c
