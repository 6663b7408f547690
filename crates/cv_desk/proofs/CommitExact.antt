-- What holds of the reply to a commit whatever the vault tells.
use Rattle.std.proofs.Common.{◌≡◌, ◌≢◌, ◌+◌, ◌++◌, ◌∷◌, [], Bool, true, false, cond, nat_le, ℕ, List, refl, sym, ap, subst, ◌∙◌, inl, inr}
use Rattle.std.specs.Prelude.{length}
use Rattle.std.specs.declared.option.Option.{Option}
use Rattle.std.specs.declared.option.Option.TheVariants.{None, Some}
use Rattle.std.specs.declared.result.Result.TheVariants.{Ok, Err}
use Rattle.cv_base.specs.Path.{Path}
use Rattle.cv_base.specs.declared.id.ObjectId.{ObjectId}
use Rattle.cv_base.specs.declared.object.Object.{Object}
use Rattle.cv_base.specs.declared.token.Token.{Token}
use Rattle.cv_vault.specs.Disk.{Disk, Files}
use Rattle.cv_vault.proofs.Laws.{quiet_same}
use Rattle.cv_ports.specs.Shelf.{HasOtherDigest}
use Rattle.cv_cut.specs.Opening.{MayFail}
use Rattle.cv_cut.specs.declared.load_fault.LoadFault.{LoadFault}
use Rattle.cv_cut.specs.declared.load_fault.LoadFault.TheVariants as load
use Rattle.cv_graft.specs.declared.graft_fault.GraftFault.{GraftFault}
use Rattle.cv_graft.specs.declared.graft_fault.GraftFault.TheVariants as graft
use Rattle.cv_history.specs.declared.record.Record.{Record}
use Rattle.cv_load.specs.declared.known_set.KnownSet.{KnownSet}
use Rattle.cv_manifest.specs.declared.head.Head.{Head}
use Rattle.cv_leases.specs.Leases.{lease_of, without}
use Rattle.cv_leases.specs.declared.lease.Lease.{Lease}
use Rattle.cv_leases.proofs.Laws.{lease_of_token}
use Rattle.cv_objects.specs.Names.{standing_on}
use Rattle.cv_base.specs.Objects.{AreNamed}
use Rattle.cv_objects.specs.declared.store_fault.StoreFault.{StoreFault}
use Rattle.cv_objects.specs.declared.store_fault.StoreFault.TheVariants as fault
use Rattle.cv_base.specs.declared.limits.TheConstants.{LAST_REVISION}
use Rattle.cv_swap.specs.Kept.{head_with}
use Rattle.cv_swap.specs.Line.{LineView, published}
use Rattle.cv_swap.specs.Publishing.{Prepared}
use Rattle.cv_swap.specs.declared.stage.Stage.{Stage}
use Rattle.cv_swap.specs.declared.stage.Stage.TheVariants as stage
use Rattle.cv_gate.specs.Laws.{is_committed}
use Rattle.cv_gate.specs.declared.act.Act.{Act}
use Rattle.cv_gate.specs.declared.act.Act.TheVariants as act
use Rattle.cv_gate.specs.declared.op.Op.{Op}
use Rattle.cv_gate.specs.declared.op.Op.TheVariants as op
use Rattle.cv_gate.specs.declared.reply.Reply.{Reply}
use Rattle.cv_gate.specs.declared.reply.Reply.TheVariants as reply
use Rattle.cv_desk.specs.Known.{KnowsOn}
use Rattle.cv_desk.specs.Gate.{StateView, ShowsDamage, IsExact}
use Rattle.cv_desk.specs.Sending.{reply_of}
use Rattle.cv_desk.specs.Views.{aged_view}
use Rattle.cv_desk.specs.Refusals.{refusal_on, has_base, holder_of, taken_by, opposition_by, opposition, is_unmade}
use Rattle.cv_desk.specs.Ends.{next_record, IsUnpublished}
use Rattle.cv_desk.specs.AnswersInner.{Tells}
use Rattle.cv_desk.specs.ActingInner.{IsAnswered}
use Rattle.cv_desk.specs.Committing.{CommitEnds, commit_refused, commit_opposed, unpublished, commit_published}
use Rattle.cv_desk.specs.Committing.{reply_at, two, one, IsUnfit, outside, meaningless, damaged, unfit, Readies, unmade, unprepared, prepared, Finishes, swaps, wavers, stays}
use Rattle.cv_desk.specs.CommittingInner.{CommitsUnder, opposed, readies, AsksCommit, not_own, own}
use Rattle.cv_desk.specs.Begin.{CommitWaits, WaitsSo}
use Rattle.cv_desk.proofs.Answering.{err_is, ok_no_err, unmade_uncommitted, end_uncommitted, opposition_uncommitted}
use Rattle.cv_desk.proofs.Exact.{IsPlain, plain_end, by_plain, wherever_told, store_shows}
use Rattle.cv_desk.proofs.Settling.{all_taken, counted_all}

-- what the revisions say names no bytes
plain_taken : (o : Option Record) (out : Reply) → taken_by o ≡ Some out → IsPlain out
plain_taken None out h id found is = cc
plain_taken (Some r) out h id found is = let e : Some (reply.TagTaken r.revision) ≡ Some (reply.Damaged id found) = h ∙ ap Some is in cc

plain_opposition : (newest : ℕ) (records : List Record) (from : ℕ) (old_root tag : List ℕ) (out : Reply) → opposition_by newest records from old_root tag ≡ Some out → IsPlain out
plain_opposition newest records from old_root tag out h id found is =
    elim (nat_le LAST_REVISION newest) as (λ full. cond full (Some reply.RevisionsFull) (cond (has_base records from old_root) (taken_by (holder_of tag records)) (Some (reply.StaleBase from))) ≡ Some out → ⊥) [
      | true ↦ λ e. (let f : Some reply.RevisionsFull ≡ Some (reply.Damaged id found) = e ∙ ap Some is in cc)
      | false ↦ λ e. elim (has_base records from old_root) as (λ base. cond base (taken_by (holder_of tag records)) (Some (reply.StaleBase from)) ≡ Some out → ⊥) [
        | true ↦ λ e2. plain_taken (holder_of tag records) out e2 id found is
        | false ↦ λ e2. (let f : Some (reply.StaleBase from) ≡ Some (reply.Damaged id found) = e2 ∙ ap Some is in cc)
      ] e
    ] h

module _ {V : Type 0} (disk : V → Option Disk) (v : V) (d : Disk) (told : disk v ≡ Some d) where
  there : (id : ObjectId) (found : List ℕ) → HasOtherDigest (standing_on d) id found → ShowsDamage disk v (reply.Damaged id found)
  there id found has = λ e is.
      let same : Some d ≡ Some e = sym told ∙ is in
      let alike : d ≡ e = cc in
      subst (λ x. HasOtherDigest (standing_on x) id found) alike has

  fault_shows : (offered : List ℕ) (x : LoadFault) → MayFail (standing_on d) offered x → ShowsDamage disk v (reply_at x)
  fault_shows offered (load.Missing id) may = tt
  fault_shows offered (load.Bad id) may = tt
  fault_shows offered load.Failed may = tt
  fault_shows offered (load.Damaged id found) may = there id found may.damage
  fault_shows offered load.NoMemory may = tt

  unfit_shows : (newest offered : List ℕ) (path : Path) (r : Reply) → IsUnfit (standing_on d) newest offered path r → ShowsDamage disk v r
  unfit_shows newest offered path r (outside (inl e)) = subst (ShowsDamage disk v) (sym e) tt
  unfit_shows newest offered path r (outside (inr e)) = subst (ShowsDamage disk v) (sym e) tt
  unfit_shows newest offered path r (meaningless x may e) = subst (ShowsDamage disk v) (sym e) (fault_shows offered x may)
  unfit_shows newest offered path r (damaged id found on has e) = subst (ShowsDamage disk v) (sym e) (there id found has)
  unfit_shows newest offered path r (unfit whole (two a b c o both at e) placed why) = subst (ShowsDamage disk v) (sym e) tt
  unfit_shows newest offered path r (unfit whole (one a c o both at e) placed why) = subst (ShowsDamage disk v) (sym e) tt

  refused_shows : (batch : List Object) (manifest : List ℕ) (x : StoreFault) (d' : Disk) → AreNamed batch → Prepared d batch manifest {X = Head} (Err x) d' → ShowsDamage disk v (reply_of x)
  refused_shows batch manifest (fault.Collision id) d' named p = tt
  refused_shows batch manifest fault.Failed d' named p = tt
  refused_shows batch manifest (fault.Damaged id found) d' named p = store_shows d batch (fault.Damaged id found) named p.shown disk v told
  refused_shows batch manifest fault.NoMemory d' named p = tt

-- what the store refuses, and what the tree is refused for, publishes nothing
pub unmade_of : (x : StoreFault) → is_unmade (reply_of x) ≡ true
unmade_of (fault.Collision id) = refl
unmade_of fault.Failed = refl
unmade_of (fault.Damaged id found) = refl
unmade_of fault.NoMemory = refl

pub unmade_at : (x : LoadFault) → is_unmade (reply_at x) ≡ true
unmade_at (load.Missing id) = refl
unmade_at (load.Bad id) = refl
unmade_at load.Failed = refl
unmade_at (load.Damaged id found) = refl
unmade_at load.NoMemory = refl

pub unmade_told : (x : GraftFault) (r : Reply) → Tells x r → is_unmade r ≡ true
unmade_told (graft.PathCollision a b) r (inl e) = ap is_unmade e
unmade_told (graft.PathCollision a b) r (inr e) = ap is_unmade e
unmade_told (graft.CatalogueFull c) r (inl e) = ap is_unmade e
unmade_told (graft.CatalogueFull c) r (inr e) = ap is_unmade e
unmade_told graft.Failed r e = ap is_unmade e
unmade_told (graft.Damaged id found) r e = ap is_unmade e
unmade_told graft.NoMemory r e = ap is_unmade e

module _ {V S : Type 0} (disk : V → Option Disk) (count : V → ℕ) (left : V → ℕ → Files → Type 0) (is_seal : S → List ℕ → List ℕ → Bool) where
  readies_shows : (known : KnownSet) (lease : Lease) (key : List ℕ) (moment : ℕ) (offered tag : List ℕ) (l l' : LineView V S) (r : Reply) → Readies disk count left is_seal known lease key moment offered tag l l' (Err r) → ShowsDamage disk l.vault r
  readies_shows known lease key moment offered tag l l' r (unmade _ kind reads fetches why) = wherever_told disk l.vault r (λ d told. unfit_shows disk l.vault d told l.head.root offered lease.path r (why d told))
  readies_shows known lease key moment offered tag l l' _ (unprepared read g x reads fetches fit dropped named w) = wherever_told disk l.vault (reply_of x) (λ d told.
      let walks = w d (quiet_same reads.0 ∙ told) in refused_shows disk l.vault d told _ l'.manifest x walks.end named walks.is)

  -- what the op comes to, where the stage is another
  abbrev At : List ℕ → Token → List ℕ → List ℕ → List ℕ → ℕ → StateView V S → StateView V S → Reply → Type 0
  At key token old_root offered tag now before after r = before.line.stage ≢ stage.Doubtful → IsExact disk count left is_seal (op.Commit key token old_root offered tag) now (act.Commit token old_root offered tag) r before after

  module _ (key : List ℕ) (token : Token) (old_root offered tag : List ℕ) (now : ℕ) (before after : StateView V S) where
    abbrev s : StateView V S
    s = aged_view before now

    as_before : (r : Reply) → CommitEnds disk count left is_seal key token old_root offered tag s r after → after.line.stage ≡ before.line.stage → At key token old_root offered tag now before after r
    as_before r come same = λ calm. record { ends = come; doubt = λ is_now. absurd (calm (sym same ∙ is_now)) }

    module _ (lease : Lease) (free : refusal_on (lease_of token s.leases) key ≡ None) (live : lease_of token s.leases ≡ Some lease) (none : opposition s.line lease.from_revision old_root tag ≡ None) where
      -- nothing was published, and the new stage isn't that of a doubt
      left_calm : (l : LineView V S) (more : KnownSet) (r : Reply) → Readies disk count left is_seal s.known lease key s.moment offered tag s.line l (Err r) → KnowsOn {X = Head} disk s.line.vault s.known offered (Err r) more → is_unmade r ≡ true → published l ≡ published s.line → l.head ≡ s.line.head → l.stage ≢ stage.Doubtful → after ≡ record s { line = l; known = more } → At key token old_root offered tag now before after r
      left_calm l more r got knows kind records head settled same = λ calm. record {
        ends = unpublished lease l more (Err r) free live none got knows (refl, same) kind (record {
          records = ap (λ (x : StateView V S). published x.line) same ∙ records;
          head = ap (λ (x : StateView V S). x.line.head) same ∙ head;
          leases = ap (λ (x : StateView V S). x.leases) same;
          moment = ap (λ (x : StateView V S). x.moment) same;
          next = ap (λ (x : StateView V S). x.next) same;
        });
        doubt = λ is_now. absurd (settled (sym (ap (λ (x : StateView V S). x.line.stage) same) ∙ is_now));
      }

      stopped_exact : (l : LineView V S) (more : KnownSet) (r : Reply) → Readies disk count left is_seal s.known lease key s.moment offered tag s.line l (Err r) → KnowsOn {X = Head} disk s.line.vault s.known offered (Err r) more → after ≡ record s { line = l; known = more } → At key token old_root offered tag now before after r
      stopped_exact l more r (unmade _ kind reads fetches why) knows same = λ calm. left_calm l more r (unmade r kind reads fetches why) knows kind (ap (λ (x : LineView V S). published x) reads.1) (ap (λ (x : LineView V S). x.head) reads.1)
          (λ is_now. calm (sym (ap (λ (x : LineView V S). x.stage) reads.1) ∙ is_now)) same calm
      stopped_exact l more _ (unprepared read g x reads fetches fit dropped named w) knows same = λ calm. left_calm l more (reply_of x) (unprepared read g x reads fetches fit dropped named w) knows (unmade_of x) (dropped.published_ ∙ ap (λ (x : LineView V S). published x) reads.1)
          (dropped.others.head_ ∙ ap (λ (x : LineView V S). x.head) reads.1) (λ is_now. (let c = dropped.stage in cc)) same calm

      -- it is ready
      ready_waits : (l : LineView V S) (more : KnownSet) (h : Head) → Readies disk count left is_seal s.known lease key s.moment offered tag s.line l (Ok h) → KnowsOn disk s.line.vault s.known offered (Ok h) more → after ≡ record s { line = l; known = more } → CommitWaits disk count left is_seal key token old_root offered tag s after
      ready_waits l more _ (prepared read g reads fetches fit records ready_ says w) knows same = record {
        lease = lease;
        grafted = g;
        free = free;
        live = live;
        unopposed = none;
        fit = fit;
        readies = subst (λ (x : LineView V S). Readies disk count left is_seal s.known lease key s.moment offered tag s.line x (Ok (head_with (next_record s.line.head lease key s.moment g offered tag) g.size)))
            (sym (ap (λ (x : StateView V S). x.line) same)) (prepared read g reads fetches fit records ready_ says w);
        knows = subst (λ (x : KnownSet). KnowsOn {X = Head} disk s.line.vault s.known offered (Ok (head_with (next_record s.line.head lease key s.moment g offered tag) g.size)) x) (sym (ap (λ (x : StateView V S). x.known) same)) knows;
        others = same ∙ (λ i. record s { line = (sym same i).line; known = (sym same i).known });
        unpublished = record {
          records = ap (λ (x : StateView V S). published x.line) same ∙ records;
          head = ap (λ (x : StateView V S). x.line.head) same ∙ ready_.others.head_ ∙ ap (λ (x : LineView V S). x.head) reads.1;
          leases = ap (λ (x : StateView V S). x.leases) same;
          moment = ap (λ (x : StateView V S). x.moment) same;
          next = ap (λ (x : StateView V S). x.next) same;
        };
        all = ap (λ (x : StateView V S). x.line.all) same ∙ ready_.all ∙ ap (λ (x : LineView V S). published x ++ next_record s.line.head lease key s.moment g offered tag ∷ []) reads.1;
        next_head = ap (λ (x : StateView V S). x.line.next_head) same ∙ ready_.next_head;
      }

    -- the stage and the head of a line that is ready
    ready_stage : (lease : Lease) (l : LineView V S) (h : Head) → Readies disk count left is_seal s.known lease key s.moment offered tag s.line l (Ok h) → (l.stage ≡ stage.Ready) × (h ≡ l.next_head)
    ready_stage lease l _ (prepared read g reads fetches fit records ready_ says w) = (ready_.stage, sym ready_.next_head)

    -- nothing that isn't ready comes to be in doubt, or is said to be made
    stopped_calm : (lease : Lease) (l : LineView V S) (r : Reply) → Readies disk count left is_seal s.known lease key s.moment offered tag s.line l (Err r) → before.line.stage ≢ stage.Doubtful → l.stage ≢ stage.Doubtful
    stopped_calm lease l r (unmade _ kind reads fetches why) calm = λ is_now. calm (sym (ap (λ (x : LineView V S). x.stage) reads.1) ∙ is_now)
    stopped_calm lease l _ (unprepared read g x reads fetches fit dropped named w) calm = λ is_now. (let c = dropped.stage in cc)

    stopped_unmade : (lease : Lease) (l : LineView V S) (r : Reply) → Readies disk count left is_seal s.known lease key s.moment offered tag s.line l (Err r) → is_committed r ≡ false
    stopped_unmade lease l r (unmade _ kind reads fetches why) = unmade_uncommitted r kind
    stopped_unmade lease l _ (unprepared read g x reads fetches fit dropped named w) = unmade_uncommitted (reply_of x) (unmade_of x)

    under_exact : (lease : Lease) (r : Reply) → refusal_on (lease_of token s.leases) key ≡ None → lease_of token s.leases ≡ Some lease → CommitsUnder disk count left is_seal lease key old_root offered tag s (Err r) after
        → At key token old_root offered tag now before after r
    under_exact lease r free live (opposed why is e same) = as_before r (commit_opposed lease free live (is ∙ ap Some (sym (err_is _ refl e))) same) (ap (λ (x : StateView V S). x.line.stage) same)
    under_exact lease r free live (readies l more none got knows same) = stopped_exact lease free live none l more r got knows same

    asked_exact : (r : Reply) → AsksCommit disk count left is_seal key token old_root offered tag s (Err r) after → At key token old_root offered tag now before after r
    asked_exact r (not_own why is e same) = as_before r (commit_refused (is ∙ ap Some (sym (err_is _ refl e))) same) (ap (λ (x : StateView V S). x.line.stage) same)
    asked_exact r (own lease free live commits) = under_exact lease r free live commits

    under_calm : (lease : Lease) (r : Reply) → CommitsUnder disk count left is_seal lease key old_root offered tag s (Err r) after → before.line.stage ≢ stage.Doubtful → after.line.stage ≢ stage.Doubtful
    under_calm lease r (opposed why is e same) calm = λ is_now. calm (sym (ap (λ (x : StateView V S). x.line.stage) same) ∙ is_now)
    under_calm lease r (readies l more none got knows same) calm = λ is_now. stopped_calm lease l r got calm (sym (ap (λ (x : StateView V S). x.line.stage) same) ∙ is_now)

    pub asked_calm : (r : Reply) → AsksCommit disk count left is_seal key token old_root offered tag s (Err r) after → before.line.stage ≢ stage.Doubtful → after.line.stage ≢ stage.Doubtful
    asked_calm r (not_own why is e same) calm = λ is_now. calm (sym (ap (λ (x : StateView V S). x.line.stage) same) ∙ is_now)
    asked_calm r (own lease free live commits) calm = under_calm lease r commits calm

    under_unmade : (lease : Lease) (r : Reply) → CommitsUnder disk count left is_seal lease key old_root offered tag s (Err r) after → is_committed r ≡ false
    under_unmade lease r (opposed why is e same) = subst (λ x. is_committed x ≡ false) (sym (err_is _ refl e)) (opposition_uncommitted s.line.head.revision (published s.line) lease.from_revision old_root tag why is)
    under_unmade lease r (readies l more none got knows same) = stopped_unmade lease l r got

    pub asked_unmade : (r : Reply) → AsksCommit disk count left is_seal key token old_root offered tag s (Err r) after → is_committed r ≡ false
    asked_unmade r (not_own why is e same) = subst (λ x. is_committed x ≡ false) (sym (err_is _ refl e)) (end_uncommitted (lease_of token s.leases) key why is)
    asked_unmade r (own lease free live commits) = under_unmade lease r commits

    under_waits : (lease : Lease) (h : Head) → refusal_on (lease_of token s.leases) key ≡ None → lease_of token s.leases ≡ Some lease → CommitsUnder disk count left is_seal lease key old_root offered tag s (Ok h) after
        → CommitWaits disk count left is_seal key token old_root offered tag s after
    under_waits lease h free live (opposed why is e same) = absurd (ok_no_err _ refl e)
    under_waits lease h free live (readies l more none got knows same) = ready_waits lease free live none l more h got knows same

    pub asked_waits : (h : Head) → AsksCommit disk count left is_seal key token old_root offered tag s (Ok h) after → CommitWaits disk count left is_seal key token old_root offered tag s after
    asked_waits h (not_own why is e same) = absurd (ok_no_err _ refl e)
    asked_waits h (own lease free live commits) = under_waits lease h free live commits

    under_stage : (lease : Lease) (h : Head) → CommitsUnder disk count left is_seal lease key old_root offered tag s (Ok h) after → (after.line.stage ≡ stage.Ready) × (h ≡ after.line.next_head)
    under_stage lease h (opposed why is e same) = absurd (ok_no_err _ refl e)
    under_stage lease h (readies l more none got knows same) =
        let is = ready_stage lease l h got in
        (ap (λ (x : StateView V S). x.line.stage) same ∙ is.0, is.1 ∙ sym (ap (λ (x : StateView V S). x.line.next_head) same))

    pub asked_stage : (h : Head) → AsksCommit disk count left is_seal key token old_root offered tag s (Ok h) after → (after.line.stage ≡ stage.Ready) × (h ≡ after.line.next_head)
    asked_stage h (not_own why is e same) = absurd (ok_no_err _ refl e)
    asked_stage h (own lease free live commits) = under_stage lease h commits

  pub commit_answered : (key : List ℕ) (token : Token) (old_root offered tag : List ℕ) (now : ℕ) (before after : StateView V S) (r : Reply)
      → AsksCommit disk count left is_seal key token old_root offered tag (aged_view before now) (Err r) after → IsAnswered disk count left is_seal (op.Commit key token old_root offered tag) now (act.Commit token old_root offered tag) r before after
  commit_answered key token old_root offered tag now before after r asked = record { exact = asked_exact key token old_root offered tag now before after r asked; damage = by asked }
    where
      under : (lease : Lease) → CommitsUnder disk count left is_seal lease key old_root offered tag (aged_view before now) (Err r) after → ShowsDamage disk before.line.vault r
      under lease (opposed why is e same) = subst (ShowsDamage disk before.line.vault) (sym (err_is _ refl e)) (by_plain disk before.line.vault why (plain_opposition before.line.head.revision _ lease.from_revision old_root tag why is))
      under lease (readies l more none got knows same) = readies_shows before.known lease key (aged_view before now).moment offered tag before.line l r got

      by : AsksCommit disk count left is_seal key token old_root offered tag (aged_view before now) (Err r) after → ShowsDamage disk before.line.vault r
      by (not_own why is e same) = subst (ShowsDamage disk before.line.vault) (sym (err_is _ refl e)) (by_plain disk before.line.vault why (plain_end (lease_of token (aged_view before now).leases) key why is))
      by (own lease free live commits) = under lease commits

-- ---- a commit that is ready is ended

-- no end names damaged bytes
pub finishes_shows : {V S : Type 0} (disk : V → Option Disk) (count : V → ℕ) (left : V → ℕ → Files → Type 0) (token : Token) (s s' : StateView V S) (r : Reply) (v : V) → Finishes disk count left token s r s' → ShowsDamage disk v r
finishes_shows disk count left token s s' r v (swaps moves e same) = subst (ShowsDamage disk v) (sym e) tt
finishes_shows disk count left token s s' r v (wavers moves e same) = subst (ShowsDamage disk v) (sym e) tt
finishes_shows disk count left token s s' r v (stays moves reads e same) = subst (ShowsDamage disk v) (sym e) tt

module _ {V S : Type 0} (disk : V → Option Disk) (count : V → ℕ) (left : V → ℕ → Files → Type 0) (is_seal : S → List ℕ → List ℕ → Bool) (key : List ℕ) (t token : Token) (old_root offered tag : List ℕ) (now : ℕ) (before mid after : StateView V S) (r : Reply)
    (same_token : token ≡ t) (a : Act) (c : CommitWaits disk count left is_seal key t old_root offered tag (aged_view before now) mid) (is_ready : mid.line.stage ≡ stage.Ready) where
  abbrev from : StateView V S
  from = aged_view before now

  abbrev new : Record
  new = next_record from.line.head c.lease key from.moment c.grafted offered tag

  counted : length mid.line.all ≡ mid.line.made + 1
  counted = counted_all mid.line.made mid.line.all new (c.all ∙ ap (λ (rs : List Record). rs ++ new ∷ []) (sym c.unpublished.records))

  ended_token : token ≡ new.token
  ended_token = same_token ∙ sym (lease_of_token t from.leases c.lease c.live)

  -- only the vault and the stage of the line changed
  kept : (v : V) (x : Stage) → after ≡ record mid { line = record mid.line { vault = v; stage = x } } → IsUnpublished from after
  kept v x same = record {
    records = ap (λ (y : StateView V S). published y.line) same ∙ c.unpublished.records;
    head = ap (λ (y : StateView V S). y.line.head) same ∙ c.unpublished.head;
    leases = ap (λ (y : StateView V S). y.leases) same ∙ c.unpublished.leases;
    moment = ap (λ (y : StateView V S). y.moment) same ∙ c.unpublished.moment;
    next = ap (λ (y : StateView V S). y.next) same ∙ c.unpublished.next;
  }

  -- its head didn't come
  failed : Finishes disk count left token mid r after → is_unmade r ≡ true → IsUnpublished from after → CommitEnds disk count left is_seal key t old_root offered tag from r after
  failed finishes kind left_so = unpublished c.lease mid.line mid.known (Ok (head_with new c.grafted.size)) c.free c.live c.unopposed c.readies c.knows
      (subst (λ (x : StateView V S). Finishes disk count left t x r after) c.others (subst (λ x. Finishes disk count left x mid r after) same_token finishes)) kind left_so

  pub finished_exact : Finishes disk count left token mid r after → IsExact disk count left is_seal (op.Commit key t old_root offered tag) now a r before after
  finished_exact (swaps moves is same) = record {
    ends = commit_published c.lease c.grafted mid.line c.free c.live c.unopposed c.fit c.readies
        (subst (λ (x : KnownSet). KnowsOn {X = Head} disk from.line.vault from.known offered (Ok (head_with new c.grafted.size)) x) (sym (ap (λ (y : StateView V S). y.known) same)) c.knows) moves (ap (λ (y : StateView V S). y.line) same) (is ∙ (λ i. reply.Committed (c.next_head i).revision (c.next_head i).root)) (record {
          records = ap (λ (y : StateView V S). published y.line) same ∙ all_taken (mid.line.made + 1) mid.line.all counted ∙ c.all;
          head = ap (λ (y : StateView V S). y.line.head) same ∙ c.next_head;
          leases = ap (λ (y : StateView V S). y.leases) same ∙ (λ i. without (ended_token i) (c.unpublished.leases i));
          moment = ap (λ (y : StateView V S). y.moment) same ∙ c.unpublished.moment;
          next = ap (λ (y : StateView V S). y.next) same ∙ c.unpublished.next;
        });
    doubt = λ is_now. (let k : after.line.stage ≡ stage.Calm = ap (λ (y : StateView V S). y.line.stage) same in cc);
  }
  finished_exact (wavers moves is same) = record {
    ends = failed (wavers moves is same) (ap is_unmade is) (kept after.line.vault stage.Doubtful same);
    doubt = λ is_now. record { commit = tt; failed = is };
  }
  finished_exact (stays moves reads is same) = record {
    ends = failed (stays moves reads is same) (ap is_unmade is) (kept after.line.vault mid.line.stage same);
    doubt = λ is_now. (let k : after.line.stage ≡ stage.Ready = ap (λ (y : StateView V S). y.line.stage) same ∙ is_ready in cc);
  }

-- whatever the op is
pub ended_exact : {V S : Type 0} (disk : V → Option Disk) (count : V → ℕ) (left : V → ℕ → Files → Type 0) (is_seal : S → List ℕ → List ℕ → Bool) (o : Op) (now : ℕ) (a : Act) (token : Token) (before mid after : StateView V S) (r : Reply) → WaitsSo disk count left is_seal o now token before mid
    → mid.line.stage ≡ stage.Ready → Finishes disk count left token mid r after → IsExact disk count left is_seal o now a r before after
ended_exact disk count left is_seal (op.Lease key path) now a token before mid after r waits is_ready finishes = absurd waits
ended_exact disk count left is_seal (op.Store key t digest batch) now a token before mid after r waits is_ready finishes = absurd waits
ended_exact disk count left is_seal (op.Commit key t old_root offered tag) now a token before mid after r waits is_ready finishes =
    finished_exact disk count left is_seal key t token old_root offered tag now before mid after r waits.0 a waits.1 is_ready finishes
ended_exact disk count left is_seal (op.Cancel key t) now a token before mid after r waits is_ready finishes = absurd waits
