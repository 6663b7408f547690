-- The state that a disk holds, after files came to it.
use Rattle.std.proofs.Common.{◌≡◌, ◌⊎◌, ◌&&◌, ◌||◌, Bool, true, false, is_some, ℕ, List, refl, sym, ap, subst, ◌∙◌, inl, inr}
use Rattle.std.specs.Prelude.{is_none}
use Rattle.std.specs.declared.option.Option.{Option}
use Rattle.std.specs.declared.option.Option.TheVariants.{None, Some}
use Rattle.cv_base.specs.Digest.{IsDigest}
use Rattle.cv_base.specs.ObjectId.{file_name}
use Rattle.cv_base.specs.declared.id.ObjectId.{ObjectId}
use Rattle.cv_base.specs.declared.object.Object.{Object}
use Rattle.cv_base.proofs.Laws.{one_file_name}
use Rattle.cv_ports.specs.Shelf.{Shelf, IsShelf}
use Rattle.cv_vault.specs.Names.{on_way}
use Rattle.cv_vault.specs.Disk.{Disk, File, May, files_now}
use Rattle.cv_vault.specs.Walks.{Stays, Comes, Gains, Nothing}
use Rattle.cv_objects.specs.Names.{is_digest, standing_on}
use Rattle.cv_base.specs.Objects.{AreNamed}
use Rattle.cv_objects.specs.Batches.{Brings, IsOne, IsGained, AreStored}
use Rattle.cv_objects.specs.Coming.{ShelfGains}
use Rattle.cv_objects.proofs.Lemmas.{digest_back, is_digest_of, gains_some, has_all}
use Rattle.cv_swap.specs.Kept.{newest}
use Rattle.cv_swap.specs.Stands.{head_name, epoch_name, epoch_text}
use Rattle.cv_swap.proofs.Lemmas.{epoch_not_data, head_not_data}
use Rattle.cv_gate.specs.State.{State, Settled, certain, unmade, published}
use Rattle.cv_gate.specs.Objects.{GainsSome, GainsAll}
use Rattle.cv_leases.specs.declared.lease.Lease.{Lease}
use Rattle.cv_desk.specs.Holds.{SaysNewest, Holds}
use Rattle.cv_desk.specs.HoldsInner.{after_failure, after_store}
use Rattle.cv_desk.proofs.Names.{none_under, at_digest, settled_at}
use Rattle.cv_desk.proofs.Imaging.{settled_itself, settled_same}

-- where nothing came the disk holds the state that it held
pub holds_same : (name : List ℕ) (is_seal : List ℕ → List ℕ → Bool) (d d' : Disk) (st : State) → Holds name is_seal d st → Gains on_way Nothing d d' → Holds name is_seal d' st
holds_same name is_seal d d' st h g = record {
  head = λ f may. elim (g.each head_name refl) [ Stays same less ↦ h.head f (less f may) | Comes came less ↦ absurd came ];
  now = λ id is. elim (g.each (file_name id) refl) [ Stays same less ↦ same ∙ h.now id is | Comes came less ↦ absurd came ];
  may = λ id f is may. elim (g.each (file_name id) refl) [ Stays same less ↦ h.may id f is (less f may) | Comes came less ↦ absurd came ];
  epoch = λ f may. elim (g.each epoch_name refl) [ Stays same less ↦ h.epoch f (less f may) | Comes came less ↦ absurd came ];
}

-- without a doubt the newest revision is that of the state
pub newest_of : (name : List ℕ) (is_seal : List ℕ → List ℕ → Bool) (st : State) (f : File) → st.doubt ≡ None → (h : SaysNewest name is_seal st f) → newest st.history ≡ Some h.newest_
newest_of name is_seal st f none h = ap (λ (x : State). newest x.history) (sym (settled_same st h.settled none h.settles)) ∙ h.is_newest

-- a disk that holds a state without a doubt holds it with other leases, at another moment
pub holds_with : (name : List ℕ) (is_seal : List ℕ → List ℕ → Bool) (d : Disk) (st : State) (leases : List Lease) (moment next : ℕ) → st.doubt ≡ None → Holds name is_seal d st → Holds name is_seal d (record st { leases = leases; moment = moment; next = next })
holds_with name is_seal d st leases moment next none h = record {
  head = λ f may. let x : SaysNewest name is_seal st f = h.head f may in record {
    settled = record st { leases = leases; moment = moment; next = next };
    settles = settled_itself (record st { leases = leases; moment = moment; next = next }) none;
    newest_ = x.newest_;
    is_newest = newest_of name is_seal st f none x;
    is = x.is;
  };
  now = h.now;
  may = h.may;
  epoch = h.epoch;
}

-- the shelf of a state is what stands on the disk
pub shelf_stands : (name : List ℕ) (is_seal : List ℕ → List ℕ → Bool) (d : Disk) (st : State) → Holds name is_seal d st → IsShelf st.shelf → st.shelf ≡ standing_on d
shelf_stands name is_seal d st h hashes = λ i id. same id i
  where
    same : (id : ObjectId) → st.shelf id ≡ standing_on d id
    same id = elim (is_digest id.hash) as (λ b. is_digest id.hash ≡ b → st.shelf id ≡ standing_on d id) [
      | true ↦ λ e. sym (at_digest (files_now d) id (digest_back id.hash e) ∙ h.now id (digest_back id.hash e))
      | false ↦ λ e. rw e (none_under st.shelf id hashes e)
    ] refl

-- ---- objects came

settles_with : (st settled : State) (s : Shelf) (l : ObjectId → Bool) → Settled st settled → Settled (record st { shelf = s; loose = l }) (record settled { shelf = s; loose = l })
settles_with st settled s l (certain none e) = certain none (λ i. record (e i) { shelf = s; loose = l })
settles_with st settled s l (unmade new is e) = unmade new is (λ i. record (e i) { shelf = s; loose = l })
settles_with st settled s l (published new is e) = published new is (λ i. record (e i) { shelf = s; loose = l })

says_with : (name : List ℕ) (is_seal : List ℕ → List ℕ → Bool) (st : State) (s : Shelf) (l : ObjectId → Bool) (f : File) → SaysNewest name is_seal st f → SaysNewest name is_seal (record st { shelf = s; loose = l }) f
says_with name is_seal st s l f x = record { settled = record x.settled { shelf = s; loose = l }; settles = settles_with st x.settled s l x.settles; newest_ = x.newest_; is_newest = x.is_newest; is = x.is }

module _ (name : List ℕ) (is_seal : List ℕ → List ℕ → Bool) (objects : List Object) (d d' : Disk) (st : State) (h : Holds name is_seal d st) (hashes : IsShelf st.shelf) (named : AreNamed objects)
    (g : Gains on_way (Brings d objects) d d') where
  -- what came is one of the objects
  gained_of : (id : ObjectId) → IsDigest id.hash → Brings d objects (file_name id) (d' (file_name id)).now → IsGained objects st.shelf id (standing_on d' id)
  gained_of id is b =
      let own : IsDigest b.object.id.hash = is_digest_of objects b.object named b.among in
      record {
        object = b.object;
        among = b.among;
        is = one_file_name id b.object.id is own b.one.name;
        file = at_digest (files_now d') id is ∙ b.one.file;
        absent = sym (h.now id is) ∙ b.one.absent;
      }

  known : st.shelf ≡ standing_on d
  known = shelf_stands name is_seal d st h hashes

  shelf_gains : ShelfGains objects st.shelf (standing_on d')
  shelf_gains = subst (λ (x : Shelf). ShelfGains objects x (standing_on d')) (sym known) (gains_some d d' objects named g)

  head_held : (f : File) → May (d' head_name) f → SaysNewest name is_seal st f
  head_held f may = elim (g.each head_name refl) [
    | Stays same less ↦ h.head f (less f may)
    | Comes came less ↦ absurd (head_not_data came.object.id came.one.name)
  ]

  epoch_held : (f : File) → May (d' epoch_name) f → f ≡ Some (epoch_text st.epoch)
  epoch_held f may = elim (g.each epoch_name refl) [
    | Stays same less ↦ h.epoch f (less f may)
    | Comes came less ↦ absurd (epoch_not_data came.object.id came.one.name)
  ]

  -- ---- the store failed

  abbrev failed : State
  failed = after_failure st d'

  pub failed_gains : GainsSome objects st failed
  failed_gains = record {
    shelf = shelf_gains;
    loose = λ id lo. elim (st.loose id) as (λ l. st.loose id ≡ l → (l || (is_none (st.shelf id) && is_some (failed.shelf id))) ≡ true → (st.loose id ≡ true) ⊎ IsGained objects st.shelf id (failed.shelf id)) [
      | true ↦ λ e _. inl e
      | false ↦ λ _ both. elim (shelf_gains.each id) [
        | inl same ↦ absurd (no_both (st.shelf id) (failed.shelf id) same both)
        | inr gained ↦ inr gained
      ]
    ] refl lo;
    others = refl;
  }
    where
      no_both : (o p : Option (List ℕ)) → p ≡ o → (is_none o && is_some p) ≡ true → ⊥
      no_both None p same both = (let none : is_some p ≡ false = ap is_some same in cc)
      no_both (Some x) p same both = cc

  may_be : IsOne objects → (id : ObjectId) (f : File) → IsDigest id.hash → May (d' (file_name id)) f → (f ≡ failed.shelf id) ⊎ ((f ≡ None) × (failed.loose id ≡ true))
  may_be one id f is may = elim (g.each (file_name id) refl) [
    | Stays same less ↦ elim (h.may id f is (less f may)) [
      | inl kept ↦ inl (kept ∙ sym (at_digest (files_now d') id is ∙ same ∙ h.now id is))
      | inr gone ↦ inr (gone.0, rw gone.1 refl)
    ]
    | Comes came less ↦
        let x : IsGained objects st.shelf id (failed.shelf id) = gained_of id is came in
        let loose : failed.loose id ≡ true = (λ i. st.loose id || (is_none (x.absent i) && is_some (x.file i))) ∙ or_true (st.loose id) in
        elim (less f may) [
          | inl old ↦ elim (h.may id f is old) [
            | inl kept ↦ inr (kept ∙ x.absent, loose)
            | inr gone ↦ inr (gone.0, loose)
          ]
          | inr other ↦
              let own : IsDigest other.object.id.hash = is_digest_of objects other.object named other.among in
              let other_id : other.object.id ≡ id = one_file_name other.object.id id own is (sym other.one.name) in
              inl (other.one.file ∙ ap Some (one.each other.object x.object other.among x.among (other_id ∙ x.is)) ∙ sym x.file)
        ]
  ]
    where
      or_true : (b : Bool) → (b || true) ≡ true
      or_true true = refl
      or_true false = refl

  pub failed_holds : IsOne objects → Holds name is_seal d' failed
  failed_holds one = record { head = λ f may. says_with name is_seal st failed.shelf failed.loose f (head_held f may); now = λ id is. sym (at_digest (files_now d') id is); may = may_be one; epoch = epoch_held }

  -- ---- the store was done

  abbrev done : State
  done = after_store st d'

  pub done_gains : AreStored objects d' → GainsAll objects st done
  done_gains all = record {
    shelf = shelf_gains;
    has = has_all d' objects named all;
    loose = λ id. refl;
    others = refl;
  }

  pub done_holds : AreStored objects d' → Holds name is_seal d' done
  done_holds all = record {
    head = λ f may. says_with name is_seal st done.shelf done.loose f (head_held f may);
    now = λ id is. sym (at_digest (files_now d') id is);
    may = λ id f is may. inl (settled_at d' (file_name id) f all.calm may ∙ sym (at_digest (files_now d') id is));
    epoch = epoch_held;
  }
