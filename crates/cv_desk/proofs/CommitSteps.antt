-- A commit that is asked is the gate's step, or gets ready.
use Rattle.std.proofs.Common.{◌≡◌, ◌<◌, Bool, true, false, cond, ℕ, List, [], ◌∷◌, refl, sym, ap, subst, ◌∙◌, inr}
use Rattle.std.specs.Prelude.{bytes_eq, IfSome}
use Rattle.std.specs.List.{AllByRecursion}
use Rattle.std.proofs.lemmas.Slice.Eq.{bytes_eq-Decides}
use Rattle.std.specs.declared.option.Option.{Option}
use Rattle.std.specs.declared.option.Option.TheVariants.{None, Some}
use Rattle.std.specs.declared.result.Result.{Result}
use Rattle.std.specs.declared.result.Result.TheVariants.{Ok, Err}
use Rattle.cv_base.specs.declared.token.Token.{Token}
use Rattle.cv_base.specs.Token.{last_number}
use Rattle.cv_base.specs.Moment.{IsMoment}
use Rattle.cv_ports.specs.Shelf.{Shelf}
use Rattle.cv_vault.specs.Names.{on_way}
use Rattle.cv_vault.specs.Disk.{Disk, Files, ImageOf}
use Rattle.cv_vault.specs.Walks.{Walks}
use Rattle.cv_vault.proofs.Laws.{looser, quiet_same}
use Rattle.cv_tree.specs.Changes.{has_place}
use Rattle.cv_cut.specs.Means.{Means}
use Rattle.cv_graft.specs.declared.grafted.Grafted.{Grafted}
use Rattle.cv_history.specs.declared.record.Record.{Record}
use Rattle.cv_manifest.specs.declared.head.Head.{Head}
use Rattle.cv_leases.specs.Leases.{lease_of, same_token}
use Rattle.cv_leases.specs.declared.lease.Lease.{Lease}
use Rattle.cv_leases.proofs.Laws.{lease_of_token}
use Rattle.cv_objects.specs.Names.{standing_on}
use Rattle.cv_objects.specs.Batches.{Brings}
use Rattle.cv_objects.specs.declared.store_fault.StoreFault.{StoreFault}
use Rattle.cv_swap.specs.Kept.{Revision, newest, records_of, head_of, head_with}
use Rattle.cv_swap.specs.Line.{LineView, LineReads, published, IsReady as IsReadyLine, IsDropped}
use Rattle.cv_swap.specs.Publishing.{Prepared, ArePrepared}
use Rattle.cv_swap.specs.Stands.{Publishes}
use Rattle.cv_gate.specs.State.{State, aged}
use Rattle.cv_gate.specs.Commits.{made}
use Rattle.cv_gate.specs.Kept.{Pending, BringsObjects, makes as makes_objects}
use Rattle.cv_gate.specs.Objects.{GainsSome}
use Rattle.cv_gate.specs.Sound.{IsUndisturbed}
use Rattle.cv_gate.specs.Step.{Step, IsNoted, IsValid, Commits, CommitStep, Publishes as PublishesAs, collides, fails as fails_so}
use Rattle.cv_gate.specs.declared.op.Op.{Op}
use Rattle.cv_gate.specs.declared.op.Op.TheVariants as op
use Rattle.cv_gate.specs.declared.act.Act.TheVariants as act
use Rattle.cv_gate.specs.declared.entry.Entry.{Entry}
use Rattle.cv_gate.specs.declared.reply.Reply.{Reply}
use Rattle.cv_gate.specs.declared.reply.Reply.TheVariants as reply
use Rattle.cv_gate.proofs.Lemmas.{some_newest, newest_is_head, sound_aged}
use Rattle.cv_desk.specs.Gate.{StateView, StandsFor, Does}
use Rattle.cv_desk.specs.Sending.{reply_of}
use Rattle.cv_desk.specs.ActingInner.{aged_view, Acts, refusal_on}
use Rattle.cv_desk.specs.Committing.{opposition, opposition_by, IsUnfit, IsFit, next_record, objects_with, Readies, unmade, unprepared, prepared}
use Rattle.cv_desk.specs.CommittingInner.{CommitsUnder, opposed, readies, AsksCommit, not_own, own}
use Rattle.cv_desk.specs.Begin.{GetsReady}
use Rattle.cv_desk.proofs.Answering.{err_is, ok_no_err}
use Rattle.cv_desk.proofs.Asking.{leases_aged, moment_aged, has_room, looked, untouched, refused_on, IsNotDone, IsOwn, own_lease}
use Rattle.cv_desk.proofs.Bringing.{AreSame, are_same, brings_same, prepared_same, Comes, fails, clashes, none_clashes_of}
use Rattle.cv_desk.proofs.CommitEnds.{holds_a, stopped_does, gets_ready}
use Rattle.cv_desk.proofs.Holding.{shelf_stands}
use Rattle.cv_desk.proofs.Learning.{does_knowing, gets_knowing}
use Rattle.cv_desk.proofs.Imaging.{settled_itself}
use Rattle.cv_desk.proofs.Offering.{unfit_step, meant, new, grafts, record_is, head_is_of, fit_step, passes}
use Rattle.cv_desk.proofs.Opposing.{IsUnopposed, unopposed, opposed as opposed_step}
use Rattle.cv_desk.proofs.Places.{head_is}
use Rattle.cv_desk.proofs.Sending.{gains_none}

-- what holds of all leases holds of the one that a token finds
pub found_has : (P : Lease → Type 0) (token : Token) (leases : List Lease) (lease : Lease) → lease_of token leases ≡ Some lease → AllByRecursion P leases → P lease
found_has P token [] lease e all = absurd cc
found_has P token (l ∷ leases) lease e all =
    elim (same_token l.token token) as (λ b. cond b (Some l) (lease_of token leases) ≡ Some lease → P lease) [
      | true ↦ λ is. (let same : l ≡ lease = cc in subst P same all.0)
      | false ↦ λ later. found_has P token leases lease later all.1
    ] e

module _ {V S : Type 0} (disk : V → Option Disk) (count : V → ℕ) (left : V → ℕ → Files → Type 0) (is_seal : S → List ℕ → List ℕ → Bool) (before after : StateView V S)
    (only : (f : Files) → left before.line.vault (count before.line.vault) f → ImageOf (disk before.line.vault) f) (room : before.next < last_number)
    (st : State) (none : st.doubt ≡ None) (stands : StandsFor disk is_seal before st) (e : Entry) (key : List ℕ) (token : Token) (old_root offered tag : List ℕ)
    (noted : IsNoted (op.Commit key token old_root offered tag) e) where
  abbrev o : Op
  o = op.Commit key token old_root offered tag

  abbrev pending : Pending
  pending = record { op = o; now = e.now }

  abbrev a : State
  a = aged st e.now

  abbrev aged_before : StateView V S
  aged_before = aged_view before e.now

  abbrev name : List ℕ
  name = before.line.name

  abbrev seal : List ℕ → List ℕ → Bool
  seal = is_seal before.line.signer

  abbrev d : Disk
  d = stands.end

  shelf_is : a.shelf ≡ standing_on d
  shelf_is = shelf_stands name seal d st stands.holds stands.sound.hashes

  leases_are : aged_before.leases ≡ a.leases
  leases_are = leases_aged disk count left is_seal before after only room st none stands e

  moment_is : aged_before.moment ≡ a.moment
  moment_is = moment_aged disk count left is_seal before after only room st none stands e

  room_ : st.next < last_number
  room_ = has_room disk count left is_seal before after only room st none stands e

  step : (st' : State) → CommitStep a key token old_root offered tag e.reply st' → Step st o e st'
  step st' commits = record {
    noted = noted;
    next = room_;
    does = inr (record { settled = st; settles = settled_itself st none; acts = inr commits });
  }

  -- ---- the newest revision

  abbrev newest_ : (r : Revision) × (newest st.history ≡ Some r)
  newest_ = some_newest st.shelf st.history stands.sound.line

  abbrev head : Revision
  head = newest_.0

  is_head : before.line.head ≡ head_of head
  is_head = head_is disk is_seal before st stands head newest_.1

  means : Means a.shelf head.record_.root head.tree
  means = (newest_is_head st.shelf st.history head stands.sound.line newest_.1).is.tree

  opposition_is : (from : ℕ) (r : Option Reply) → opposition before.line from old_root tag ≡ r → opposition_by head.record_.revision (records_of st.history) from old_root tag ≡ r
  opposition_is from r is = (λ i. opposition_by (sym is_head i).revision (sym stands.records i) from old_root tag) ∙ is

  -- ---- under a lease that is live and the key's own

  module _ (lease : Lease) (live : lease_of token a.leases ≡ Some lease) (owned : bytes_eq lease.key key ≡ true) where
    on_lease : (r : Reply) (st' : State) → Commits a key token old_root offered tag r st' lease → CommitStep a key token old_root offered tag r st'
    on_lease r st' commits = inr ((λ not. (let l = live in cc)), (lease, live, inr ((λ not. (let w = owned in cc)), commits)))

    place : has_place head.tree lease.path ≡ true
    place =
        let undisturbed : IsUndisturbed st.history lease = found_has (IsUndisturbed st.history) token a.leases lease live (sound_aged st e.now noted.now none stands.sound).undisturbed in
        subst (λ (n : Option Revision). IfSome n (λ r. has_place r.tree lease.path ≡ true)) newest_.1 undisturbed.place

    -- and nothing that the revisions say is against it
    module _ (free : IsUnopposed st.history head lease.from_revision old_root tag) where
      unfit_in : (r : Reply) → IsUnfit (standing_on d) before.line.head.root offered lease.path r → Commits a key token old_root offered tag r a lease
      unfit_in r u = unfit_step a head lease key token old_root offered tag newest_.1 stands.sound.hashes means place free r
          (subst (λ (s : Shelf). IsUnfit s head.record_.root offered lease.path r) (sym shelf_is) (subst (λ (h : Head). IsUnfit (standing_on d) h.root offered lease.path r) is_head u))

      fit_in : (g : Grafted) → IsFit (standing_on d) before.line.head.root offered lease.path g → IsFit a.shelf head.record_.root offered lease.path g
      fit_in g u = subst (λ (s : Shelf). IsFit s head.record_.root offered lease.path g) (sym shelf_is) (subst (λ (h : Head). IsFit (standing_on d) h.root offered lease.path g) is_head u)

      -- the new tree fits, and the line l came of what was read
      module _ (g : Grafted) (fit : IsFit a.shelf head.record_.root offered lease.path g) (read l : LineView V S) (reads : LineReads disk count left before.line read) where
        abbrev new_ : Revision
        new_ = new a head lease key token old_root offered tag newest_.1 stands.sound.hashes means place free g fit

        abbrev next : Record
        next = next_record before.line.head lease key aged_before.moment g offered tag

        abbrev mid : StateView V S
        mid = record aged_before { line = l }

        next_is : next ≡ new_.record_
        next_is = (λ i. next_record (is_head i) lease key (moment_is i) g offered tag)
            ∙ record_is a head lease key token old_root offered tag newest_.1 stands.sound.hashes means place free g fit ((bytes_eq-Decides lease.key key).0 owned)

        same : AreSame (objects_with g next) (made new_)
        same = are_same g next new_ (grafts a head lease key token old_root offered tag newest_.1 stands.sound.hashes means place free g fit).1 next_is

        brought : (r : Result Head StoreFault) → Walks disk count left on_way (Brings d (objects_with g next)) (Prepared d (objects_with g next) l.manifest r) d read.vault l.vault
            → Walks disk count left on_way (Brings d (made new_)) (Prepared d (made new_) l.manifest r) d read.vault l.vault
        brought r w = looser w (brings_same d (objects_with g next) (made new_) same) (λ d' gains p. prepared_same d (objects_with g next) (made new_) same l.manifest r d' p)

        brings_ : BringsObjects a o (made new_)
        brings_ =
            let n = meant a head lease key token old_root offered tag newest_.1 stands.sound.hashes means place free g fit in
            makes_objects lease head n.0 live newest_.1 n.1

        publishes : (r : Reply) (st' : State) → Comes new_ a r st' → PublishesAs a key token old_root offered tag new_ r st'
        publishes r st' (fails fault gains) = fails_so fault gains
        publishes r st' (clashes id c is same) = collides id c is (subst (GainsSome (made new_) a) (sym same) (gains_none (made new_) a))

        -- the step of what isn't brought
        stops : (r : Reply) → e.reply ≡ r → (st' : State) → Comes new_ a r st' → Step st o e st'
        stops r replied st' comes = step st' (on_lease e.reply st' (fit_step a head lease key token old_root offered tag newest_.1 stands.sound.hashes means place free g fit e.reply st'
            (subst (λ x. PublishesAs a key token old_root offered tag new_ x st') (sym replied) (publishes r st' comes))))

        stopped : (fault : StoreFault) → IsDropped read l → e.reply ≡ reply_of fault
            → Walks disk count left on_way (Brings d (objects_with g next)) (Prepared d (objects_with g next) l.manifest {X = Head} (Err fault)) d read.vault l.vault → Does disk count left is_seal o e before mid st
        stopped fault dropped replied w = stopped_does disk count left is_seal before only st none stands o e noted.op noted.now noted.records room_ new_ brings_ read l reads fault dropped (brought (Err fault) w)
            (stops (reply_of fault) replied)

        head_is_new : head_with next g.size ≡ head_of new_
        head_is_new = head_is_of a head lease key token old_root offered tag newest_.1 stands.sound.hashes means place free g fit next next_is

        gets : published l ≡ published before.line → IsReadyLine read next (head_with next g.size) l → Publishes name seal (Some l.manifest) (head_with next g.size)
            → Walks disk count left on_way (Brings d (objects_with g next)) (Prepared d (objects_with g next) l.manifest (Ok (head_with next g.size))) d read.vault l.vault → GetsReady disk count left is_seal o e.now token before mid st
        gets same_records readied says w = by (brought (Ok (head_with next g.size)) w)
          where
            by : Walks disk count left on_way (Brings d (made new_)) (ArePrepared (made new_) l.manifest) d read.vault l.vault → GetsReady disk count left is_seal o e.now token before mid st
            by w2 = gets_ready disk count left is_seal before only st none stands o e noted.op noted.now noted.records room_ new_ brings_ read l reads next (head_with next g.size) next_is head_is_new readied same_records says w2
                (passes a head lease key token old_root offered tag newest_.1 stands.sound.hashes means place free g fit live owned
                (λ id c. none_clashes_of name seal d w2.end a new_ (holds_a disk count left is_seal before only st none stands o e noted.op noted.now noted.records room_ new_ brings_ read l reads) stands.sound.hashes w2.gains l.manifest w2.is id c))
                token (sym (lease_of_token token a.leases lease live))

      -- ---- whatever comes of bringing it

      stopped_all : (l : LineView V S) (r : Reply) → Readies disk count left is_seal before.known lease key aged_before.moment offered tag before.line l (Err r) → e.reply ≡ r
          → Does disk count left is_seal o e before (record aged_before { line = l }) st
      stopped_all l _ (unmade r kind reads fetches unfit) replied = looked disk count left is_seal before (record aged_before { line = l }) only room st none stands e o noted (inr (subst (λ x. CommitStep a key token old_root offered tag x a) (sym replied) (on_lease r a (unfit_in r (unfit d stands.told)))))
          (record { reads = reads.0; others = ap (λ (x : LineView V S). record aged_before { line = x }) reads.1 })
      stopped_all l _ (unprepared read g fault reads fetches fit dropped named w) replied = stopped g (fit_in g (fit d stands.told)) read l reads fault dropped replied (w d (quiet_same reads.0 ∙ stands.told))

      ready_all : (l : LineView V S) (h : Head) → Readies disk count left is_seal before.known lease key aged_before.moment offered tag before.line l (Ok h) → GetsReady disk count left is_seal o e.now token before (record aged_before { line = l }) st
      ready_all l _ (prepared read g reads fetches fit same_records readied says w) = gets g (fit_in g (fit d stands.told)) read l reads same_records readied says (w d (quiet_same reads.0 ∙ stands.told))

    under_does : (r : Reply) → CommitsUnder disk count left is_seal lease key old_root offered tag aged_before (Err r) after → e.reply ≡ r → Does disk count left is_seal o e before after st
    under_does r (opposed why is told_ same) replied =
        let told : r ≡ why = err_is _ refl told_ in
        untouched disk count left is_seal before after only room st none stands e o noted
        (inr (subst (λ x. CommitStep a key token old_root offered tag x a) (sym (replied ∙ told)) (on_lease why a
        (opposed_step a head newest_.1 lease key token old_root offered tag why (opposition_is lease.from_revision (Some why) is))))) same
    under_does r (readies l more is got knows same) replied = subst (λ (x : StateView V S). Does disk count left is_seal o e before x st) (sym same)
        (does_knowing disk count left is_seal o e before (record aged_before { line = l }) st more (stopped_all (unopposed st.history head lease.from_revision old_root tag (opposition_is lease.from_revision None is)) l r got replied))

    under_gets : (h : Head) → CommitsUnder disk count left is_seal lease key old_root offered tag aged_before (Ok h) after → GetsReady disk count left is_seal o e.now token before after st
    under_gets h (opposed why is told _) = absurd (ok_no_err _ refl told)
    under_gets h (readies l more is got knows same) = subst (λ (x : StateView V S). GetsReady disk count left is_seal o e.now token before x st) (sym same)
        (gets_knowing disk count left is_seal o e.now token before (record aged_before { line = l }) st more (ready_all (unopposed st.history head lease.from_revision old_root tag (opposition_is lease.from_revision None is)) l h got))

  -- ---- whoever asks

  refused_aged : (r : Option Reply) → refusal_on (lease_of token aged_before.leases) key ≡ r → refusal_on (lease_of token a.leases) key ≡ r
  refused_aged r is = ap (λ (l : List Lease). refusal_on (lease_of token l) key) (sym leases_are) ∙ is

  own_is : (lease : Lease) → refusal_on (lease_of token aged_before.leases) key ≡ None → lease_of token aged_before.leases ≡ Some lease → (lease_of token a.leases ≡ Some lease) × (bytes_eq lease.key key ≡ true)
  own_is lease is live =
      let live_ : lease_of token a.leases ≡ Some lease = ap (lease_of token) (sym leases_are) ∙ live in
      let mine : IsOwn a.leases key token = own_lease a.leases key token (refused_aged None is) in
      let same_lease : mine.lease ≡ lease = (let x = mine.live in let y = live_ in cc) in
      (live_, subst (λ (l : Lease). bytes_eq l.key key ≡ true) same_lease mine.own)

  pub commit_does : (r : Reply) → AsksCommit disk count left is_seal key token old_root offered tag aged_before (Err r) after → e.reply ≡ r → Does disk count left is_seal o e before after st
  commit_does r (not_own why is told_ same) replied =
      let told : r ≡ why = err_is _ refl told_ in
      let not : IsNotDone a key token why = refused_on a key token why (refused_aged (Some why) is) in
      untouched disk count left is_seal before after only room st none stands e o noted
      (inr (subst (λ x. CommitStep a key token old_root offered tag x a) (sym (replied ∙ told)) (not.step (λ lease. Commits a key token old_root offered tag why a lease)))) same
  commit_does r (own lease is live under) replied = let mine = own_is lease is live in under_does lease mine.0 mine.1 r under replied

  pub commit_gets : (h : Head) → AsksCommit disk count left is_seal key token old_root offered tag aged_before (Ok h) after → GetsReady disk count left is_seal o e.now token before after st
  commit_gets h (not_own why is told _) = absurd (ok_no_err _ refl told)
  commit_gets h (own lease is live under) = let mine = own_is lease is live in under_gets lease mine.0 mine.1 h under

-- from whatever settled state
module _ {V S : Type 0} (disk : V → Option Disk) (count : V → ℕ) (left : V → ℕ → Files → Type 0) (is_seal : S → List ℕ → List ℕ → Bool) (before aged_ after : StateView V S) (now : ℕ) (aged_is : aged_ ≡ aged_view before now)
    (only : (f : Files) → left before.line.vault (count before.line.vault) f → ImageOf (disk before.line.vault) f) (room : before.next < last_number) (key : List ℕ) (token : Token) (old_root offered tag : List ℕ) where
  pub commit_acts : (r : Reply) → AsksCommit disk count left is_seal key token old_root offered tag aged_ (Err r) after → Acts disk count left is_seal (op.Commit key token old_root offered tag) now (act.Commit token old_root offered tag) r before after
  commit_acts r asks = λ st none stands e noted e_now e_act e_reply.
      commit_does disk count left is_seal before after only room st none stands e key token old_root offered tag noted r
      (subst (λ (s : StateView V S). AsksCommit disk count left is_seal key token old_root offered tag s (Err r) after) (aged_is ∙ ap (aged_view before) (sym e_now)) asks) e_reply

  -- the entry as it would be
  abbrev asked_entry : Entry
  asked_entry = record { seat = 0; now = now; key = key; act = act.Commit token old_root offered tag; reply = reply.NoMemory }

  pub commit_readied : (h : Head) → AsksCommit disk count left is_seal key token old_root offered tag aged_ (Ok h) after → IsValid (op.Commit key token old_root offered tag) → IsMoment now → (st : State) → st.doubt ≡ None
      → StandsFor disk is_seal before st → GetsReady disk count left is_seal (op.Commit key token old_root offered tag) now token before after st
  commit_readied h asks valid moment st none stands =
      commit_gets disk count left is_seal before after only room st none stands asked_entry key token old_root offered tag (record { op = valid; now = moment; records = (refl, refl) }) h
      (subst (λ (s : StateView V S). AsksCommit disk count left is_seal key token old_root offered tag s (Ok h) after) aged_is asks)
