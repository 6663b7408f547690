-- A commit whose checks passed: its objects weren't brought, or it is ready.
use Rattle.std.proofs.Common.{◌≡◌, ◌≢◌, ◌<◌, max, Bool, ℕ, List, [], ◌∷◌, ◌++◌, refl, sym, ap, subst, ◌∙◌, inr}
use Rattle.std.specs.Prelude.{IfSome}
use Rattle.std.specs.declared.option.Option.{Option}
use Rattle.std.specs.declared.option.Option.TheVariants.{None, Some}
use Rattle.std.specs.declared.result.Result.TheVariants.{Err}
use Rattle.cv_base.specs.declared.id.ObjectId.{ObjectId}
use Rattle.cv_base.specs.declared.token.Token.{Token}
use Rattle.cv_base.specs.Token.{last_number}
use Rattle.cv_base.specs.Moment.{IsMoment}
use Rattle.cv_ports.specs.Shelf.{Shelf}
use Rattle.cv_vault.specs.Names.{on_way}
use Rattle.cv_vault.specs.Disk.{Disk, Files, ImageOf}
use Rattle.cv_vault.specs.Moments.{LeavesOnly}
use Rattle.cv_vault.specs.Walks.{Walks}
use Rattle.cv_vault.proofs.Laws.{leaves_then, leaves_more, quiet_walks}
use Rattle.cv_history.specs.declared.record.Record.{Record}
use Rattle.cv_manifest.specs.declared.head.Head.{Head}
use Rattle.cv_leases.specs.Leases.{unexpired}
use Rattle.cv_objects.specs.Batches.{Brings}
use Rattle.cv_objects.specs.declared.store_fault.StoreFault.{StoreFault}
use Rattle.cv_swap.specs.Kept.{Revision, newest, head_of}
use Rattle.cv_swap.specs.Line.{LineView, LineReads, published, AreKept, IsReady as IsReadyLine, IsDropped}
use Rattle.cv_swap.specs.Publishing.{Prepared, ArePrepared}
use Rattle.cv_swap.specs.Stands.{Publishes}
use Rattle.cv_swap.specs.declared.stage.Stage.TheVariants as stage
use Rattle.cv_gate.specs.State.{State, aged}
use Rattle.cv_gate.specs.Commits.{made}
use Rattle.cv_gate.specs.Kept.{Pending, BringsObjects}
use Rattle.cv_gate.specs.Objects.{GainsAll}
use Rattle.cv_gate.specs.Passing.{MakesNew}
use Rattle.cv_gate.specs.Ready.{IsReady, stays as ends_fault}
use Rattle.cv_gate.specs.Sound.{Sound}
use Rattle.cv_gate.specs.Step.{Step, Records, IsValid}
use Rattle.cv_gate.specs.declared.op.Op.{Op}
use Rattle.cv_gate.specs.declared.entry.Entry.{Entry}
use Rattle.cv_gate.specs.declared.reply.Reply.TheVariants as reply
use Rattle.cv_gate.proofs.Lemmas.{by_step, ready_ends, hashed_made}
use Rattle.cv_desk.specs.Holds.{IsHeadOf, Holds, Survives}
use Rattle.cv_desk.specs.HoldsInner.{after_store}
use Rattle.cv_desk.specs.Gate.{StateView, StandsFor, KnowsDoubt, Does}
use Rattle.cv_desk.specs.Sending.{reply_of}
use Rattle.cv_desk.specs.ActingInner.{aged_view}
use Rattle.cv_desk.specs.Begin.{IsReadyIn, GetsReady}
use Rattle.cv_desk.proofs.Bringing.{Comes, Ends, unprepared_ends, all_gained, all_held}
use Rattle.cv_desk.proofs.Finishing.{records_again}
use Rattle.cv_desk.proofs.Holding.{holds_with}
use Rattle.cv_desk.proofs.Imaging.{quiet_survives, bringing_survives, settled_itself}

module _ {V S : Type 0} (disk : V → Option Disk) (count : V → ℕ) (left : V → ℕ → Files → Type 0) (is_seal : S → List ℕ → List ℕ → Bool) (before : StateView V S)
    (only : (f : Files) → left before.line.vault (count before.line.vault) f → ImageOf (disk before.line.vault) f) (st : State) (none : st.doubt ≡ None) (stands : StandsFor disk is_seal before st)
    (o : Op) (e : Entry) (valid : IsValid o) (limit : IsMoment e.now) (records : Records e o) (room : st.next < last_number) (new : Revision) (brings : BringsObjects (aged st e.now) o (made new))
    (read l : LineView V S) (reads : LineReads disk count left before.line read) where
  abbrev pending : Pending
  pending = record { op = o; now = e.now }

  abbrev a : State
  a = aged st e.now

  abbrev name : List ℕ
  name = before.line.name

  abbrev seal : List ℕ → List ℕ → Bool
  seal = is_seal before.line.signer

  abbrev d : Disk
  d = stands.end

  abbrev pub mid : StateView V S
  mid = record (aged_view before e.now) { line = l }

  -- ---- what a crash leaves while the catalogues are read, and while the objects come

  bringing : (E : Disk → Type 0) → Walks disk count left on_way (Brings d (made new)) E d read.vault l.vault → LeavesOnly count left (Survives name seal st (Some pending)) before.line.vault l.vault
  bringing E w =
      let reading : LeavesOnly count left (Survives name seal st (Some pending)) before.line.vault read.vault =
      leaves_more (quiet_walks {away = on_way} only stands.told reads.0).leaves (λ f w. quiet_survives name seal d st f pending stands.holds stands.sound w) in
      leaves_then reading w.leaves (λ f x. x) (λ f within. bringing_survives name seal (made new) d st f stands.holds stands.sound (hashed_made new) within pending none brings)

  pub holds_a : Holds name seal d a
  holds_a = holds_with name seal d st (unexpired (max st.moment e.now) st.leases) (max st.moment e.now) st.next none stands.holds

  -- ---- the line is that of the same repository

  name_is : AreKept read l → l.name ≡ name
  name_is kept = kept.name_ ∙ ap (λ (x : LineView V S). x.name) reads.1

  signer_is : AreKept read l → l.signer ≡ before.line.signer
  signer_is kept = kept.signer_ ∙ ap (λ (x : LineView V S). x.signer) reads.1

  pub published_read : published read ≡ published before.line
  published_read = ap (λ (x : LineView V S). published x) reads.1

  stands_as : AreKept read l → published l ≡ published before.line → l.stage ≢ stage.Doubtful → (d' : Disk) → disk l.vault ≡ Some d' → (s : Shelf) (lo : ObjectId → Bool) → Sound (record a { shelf = s; loose = lo })
      → Holds name seal d' (record a { shelf = s; loose = lo }) → StandsFor disk is_seal mid (record a { shelf = s; loose = lo })
  stands_as kept same_records calm d' told s lo sound holds = record {
    sound = sound;
    end = d';
    told = told;
    holds = subst (λ n. Holds n (is_seal l.signer) d' (record a { shelf = s; loose = lo })) (sym (name_is kept)) (subst (λ x. Holds name (is_seal x) d' (record a { shelf = s; loose = lo })) (sym (signer_is kept)) holds);
    records = same_records ∙ stands.records;
    head = subst (λ (h : Head). IfSome (newest st.history) (λ r. h ≡ head_of r)) (sym (kept.head_ ∙ ap (λ (x : LineView V S). x.head) reads.1)) stands.head;
    doubt = subst (KnowsDoubt is_seal l d' st.history) (sym none) calm;
    epoch = kept.epoch_ ∙ ap (λ (x : LineView V S). x.epoch) reads.1 ∙ stands.epoch;
    leases = (λ i. unexpired (max (stands.moment i) e.now) (stands.leases i));
    moment = ap (λ m. max m e.now) stands.moment;
    next = stands.next;
  }

  -- ---- it isn't prepared

  pub stopped_does : (fault : StoreFault) → IsDropped read l → (w : Walks disk count left on_way (Brings d (made new)) (Prepared d (made new) l.manifest {X = Head} (Err fault)) d read.vault l.vault)
      → ((st' : State) → Comes new a (reply_of fault) st' → Step st o e st') → Does disk count left is_seal o e before mid st
  stopped_does fault dropped w steps = by (unprepared_ends name seal d w.end a new holds_a stands.sound.hashes w.gains l.manifest fault w.is)
    where
      by : Ends name seal d w.end a new holds_a stands.sound.hashes w.gains l.manifest (reply_of fault) → Does disk count left is_seal o e before mid st
      by x = record {
        next = x.next;
        step = steps x.next x.comes;
        stands = subst (λ (y : State). StandsFor disk is_seal mid y) (sym x.same)
            (stands_as dropped.others (dropped.published_ ∙ published_read) (λ k. (let calm = dropped.stage in cc)) w.end w.told x.next.shelf x.next.loose
            (subst Sound x.same (by_step st o e x.next stands.sound (steps x.next x.comes))) (subst (Holds name seal w.end) x.same x.holds));
        leaves = bringing _ w;
      }

  -- ---- it is

  module _ (next : Record) (next_head : Head) (next_is : next ≡ new.record_) (head_is : next_head ≡ head_of new) (readied : IsReadyLine read next next_head l) (same_records : published l ≡ published before.line)
      (says : Publishes name seal (Some l.manifest) next_head) (w : Walks disk count left on_way (Brings d (made new)) (ArePrepared (made new) l.manifest) d read.vault l.vault) (makes : MakesNew a o new) where
    abbrev stored : State
    stored = after_store a w.end

    gains : GainsAll (made new) a stored
    gains = all_gained name seal d w.end a new holds_a stands.sound.hashes w.gains l.manifest w.is

    ready : IsReady st o e.now new stored
    ready = record { op = valid; limit = limit; next = room; settled = st; settles = settled_itself st none; makes = makes; gains = gains }

    stored_sound : Sound stored
    stored_sound =
        let e1 : Entry = record e { reply = reply.NoMemory } in
        by_step st o e1 stored stands.sound (ready_ends st o e.now new stored e1 stored ready refl (records_again o e reply.NoMemory records) (ends_fault (inr refl) refl))

    says_new : IsHeadOf l.name (is_seal l.signer) new (Some l.manifest)
    says_new = subst (λ n. IsHeadOf n (is_seal l.signer) new (Some l.manifest)) (sym (name_is readied.others)) (subst (λ x. IsHeadOf name (is_seal x) new (Some l.manifest)) (sym (signer_is readied.others))
        (subst (λ (h : Head). Publishes name seal (Some l.manifest) h) head_is says))

    -- the commit is ready
    pub readied_in : (token : Token) → token ≡ new.record_.token → IsReadyIn disk is_seal mid token o e.now st new stored
    readied_in token of = record {
      sound = stands.sound;
      ready = ready;
      lease = of;
      stands = stands_as readied.others same_records (λ k. (let ready = readied.stage in cc)) w.end w.told stored.shelf stored.loose stored_sound
          (all_held name seal d w.end a new holds_a stands.sound.hashes w.gains l.manifest w.is);
      all = readied.all ∙ (λ i. (published_read ∙ sym same_records) i ++ next_is i ∷ []);
      next_head = readied.next_head ∙ head_is;
      says = says_new;
    }

    pub gets_ready : (token : Token) → token ≡ new.record_.token → GetsReady disk count left is_seal o e.now token before mid st
    gets_ready token of = record { new = new; stored = stored; ready = readied_in token of; leaves = bringing _ w }
