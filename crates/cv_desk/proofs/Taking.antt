-- An op that is taken is the gate's step, in one call or in two.
use Rattle.std.proofs.Common.{◌≡◌, ◌≢◌, ◌≤◌, ◌<◌, ◌+◌, ◌++◌, length, ℕ, Bool, true, false, List, [], ◌∷◌, refl, sym, ap, subst, ◌∙◌, inl, inr, arith}
use Rattle.std.specs.declared.option.Option.{Option}
use Rattle.std.specs.declared.option.Option.TheVariants.{None, Some}
use Rattle.std.specs.declared.result.Result.{Result}
use Rattle.std.specs.declared.result.Result.TheVariants.{Ok, Err}
use Rattle.cv_base.specs.Digest.{IsDigest}
use Rattle.cv_base.specs.declared.id.ObjectId.{ObjectId}
use Rattle.cv_base.specs.declared.object.Object.{Object}
use Rattle.cv_base.specs.declared.token.Token.{Token}
use Rattle.cv_base.specs.Told.{WhereTold}
use Rattle.cv_base.specs.Token.{last_number}
use Rattle.cv_base.specs.Moment.{IsMoment}
use Rattle.cv_vault.specs.Names.{on_way}
use Rattle.cv_vault.specs.Disk.{Disk, Files, ImageOf}
use Rattle.cv_vault.specs.Walks.{Walks, Nothing}
use Rattle.cv_vault.proofs.Laws.{leaves_then}
use Rattle.cv_vault.specs.declared.vault.VaultFault.{VaultFault}
use Rattle.cv_vault.specs.declared.vault.VaultFault.TheVariants as vault
use Rattle.cv_manifest.specs.declared.head.Head.{Head}
use Rattle.cv_swap.specs.Kept.{Revision}
use Rattle.cv_swap.specs.Line.{LineView}
use Rattle.cv_swap.specs.declared.stage.Stage.TheVariants as stage
use Rattle.cv_gate.specs.State.{State}
use Rattle.cv_gate.specs.Kept.{Pending}
use Rattle.cv_gate.specs.Laws.{is_committed}
use Rattle.cv_gate.specs.Step.{IsOp, HasTypes, HasNoFresh, IsFault, Records}
use Rattle.cv_gate.specs.declared.op.Op.{Op}
use Rattle.cv_gate.specs.declared.reply.Reply.{Reply}
use Rattle.cv_gate.specs.declared.reply.Reply.TheVariants as reply
use Rattle.cv_gate.specs.declared.entry.TheConstants.{JOURNAL_LIMIT}
use Rattle.cv_gate.specs.declared.act.Act.{Act}
use Rattle.cv_gate.specs.declared.act.Act.TheVariants as acts
use Rattle.cv_gate.specs.declared.op.Op.TheVariants as op
use Rattle.cv_gate.specs.declared.entry.Entry.{Entry}
use Rattle.cv_desk.specs.Gate.{StateView, GateView, StandsFor, IsSameRepository, IsCommit, Proceeds, waits as waits_for, goes, ShowsDamage, Does, Steps, made}
use Rattle.cv_desk.specs.Resuming.{Resumes, Awaits}
use Rattle.cv_desk.specs.Views.{aged_view}
use Rattle.cv_desk.specs.Sending.{reply_in}
use Rattle.cv_desk.specs.Committing.{Finishes, swaps, wavers, stays}
use Rattle.cv_desk.specs.CommittingInner.{AsksCommit}
use Rattle.cv_desk.specs.Begin.{entry_of, IsReadyIn, GetsReady, EndsStep, Begins, over, waits as waits_ready, EndsBy, EndsWaiting}
use Rattle.cv_desk.specs.ActingInner.{Settles, Acts, Keeps, IsAnswered, IsDone, IsReadied, IsDeclined, Courses, ComesToCommit, Takes, TakesReady, TakesCourse}
use Rattle.cv_desk.specs.declared.begun.Begun.TheVariants.{Done, Ready}
use Rattle.cv_desk.specs.declared.taken.Taken.{Taken}
use Rattle.cv_desk.specs.declared.taken.Readied.{Readied}
use Rattle.cv_desk.specs.declared.taken.Course.{Course}
use Rattle.cv_desk.specs.declared.taken.Course.TheVariants as course
use Rattle.cv_desk.specs.declared.waiting.Waiting.{Waiting}
use Rattle.cv_desk.proofs.CommitExact.{commit_answered, asked_calm, asked_unmade, asked_waits, asked_stage, finishes_shows, ended_exact}
use Rattle.cv_desk.proofs.CommitSteps.{commit_acts, commit_readied}
use Rattle.cv_desk.proofs.Exact.{damage_before}
use Rattle.cv_desk.proofs.Readied.{ready_later, ends_step}
use Rattle.cv_desk.proofs.Settling.{does_later, waits_does, survives_same}

-- the same repository twice
pub same_then : {V S : Type 0} (a b c : LineView V S) → IsSameRepository a b → IsSameRepository b c → IsSameRepository a c
same_then a b c x y = record { name_ = y.name_ ∙ x.name_; signer_ = y.signer_ ∙ x.signer_; epoch_ = y.epoch_ ∙ x.epoch_ }

-- it is the same behind an age
pub same_aged : {V S : Type 0} (before aged_ after : StateView V S) (now : ℕ) → aged_ ≡ aged_view before now → IsSameRepository aged_.line after.line → IsSameRepository before.line after.line
same_aged before aged_ after now is same = subst (λ (s : StateView _ _). IsSameRepository s.line after.line) is same

-- an op that is no commit was done
pub plain_done : {V S : Type 0} (disk : V → Option Disk) (count : V → ℕ) (left : V → ℕ → Files → Type 0) (is_seal : S → List ℕ → List ℕ → Bool) (o : Op) (now : ℕ) (t : Taken) (before after : StateView V S) → (IsCommit o → ⊥) → HasTypes o → Keeps o t
    → Acts disk count left is_seal o now t.act t.answer before after → IsAnswered disk count left is_seal o now t.act t.answer before after → IsSameRepository before.line after.line → after.next ≤ before.next + 1 → IsDone disk count left is_seal o now t before after
plain_done disk count left is_seal o now t before after never types keeps acts answered same next = record {
  types = types;
  keeps = keeps;
  acts = acts;
  answered = answered;
  same = same;
  next = next;
  unpublished = λ c. absurd (never c);
  calm = λ calm is_now. never ((answered.exact calm).doubt is_now).commit;
}

-- objects were sent
pub store_done : {V S : Type 0} (disk : V → Option Disk) (count : V → ℕ) (left : V → ℕ → Files → Type 0) (is_seal : S → List ℕ → List ℕ → Bool) (key digest : List ℕ) (token : Token) (batch : List Object) (fresh : List ObjectId) (answer : Reply) (now : ℕ) (act : Act)
    (before after : StateView V S) → IsDigest digest → act ≡ acts.Store token digest fresh
    → Acts disk count left is_seal (op.Store key token digest batch) now (acts.Store token digest fresh) answer before after
    → IsAnswered disk count left is_seal (op.Store key token digest batch) now (acts.Store token digest fresh) answer before after → IsSameRepository before.line after.line → after.next ≤ before.next + 1
    → IsDone disk count left is_seal (op.Store key token digest batch) now (record { key = key; act = act; answer = answer }) before after
store_done disk count left is_seal key digest token batch fresh answer now act before after types is done answered same next =
    plain_done disk count left is_seal (op.Store key token digest batch) now (record { key = key; act = act; answer = answer }) before after (λ c. c) types
    (λ e e_key e_act. (e_key, (fresh, e_act ∙ is)))
    (subst (λ a. Acts disk count left is_seal (op.Store key token digest batch) now a answer before after) (sym is) done)
    (subst (λ a. IsAnswered disk count left is_seal (op.Store key token digest batch) now a answer before after) (sym is) answered) same next

-- a commit was answered, or is ready
module _ {V S : Type 0} (disk : V → Option Disk) (count : V → ℕ) (left : V → ℕ → Files → Type 0) (is_seal : S → List ℕ → List ℕ → Bool) (before aged_ after : StateView V S) (now : ℕ) (aged_is : aged_ ≡ aged_view before now)
    (only : (f : Files) → left before.line.vault (count before.line.vault) f → ImageOf (disk before.line.vault) f) (room : before.next < last_number) (key : List ℕ) (token : Token) (old_root offered tag : List ℕ)
    (types : HasTypes (op.Commit key token old_root offered tag)) (calm : before.line.stage ≢ stage.Doubtful) (same : IsSameRepository before.line after.line) (next : after.next ≡ before.next) where
  pub commit_comes : (r : Result Head Reply) → AsksCommit disk count left is_seal key token old_root offered tag aged_ r after → ComesToCommit disk count left is_seal key token old_root offered tag now before r after
  commit_comes (Ok head) asks =
      let asked = subst (λ (s : StateView V S). AsksCommit disk count left is_seal key token old_root offered tag s (Ok head) after) aged_is asks in
      let is = asked_stage disk count left is_seal key token old_root offered tag now before after head asked in record {
        types = types;
        keeps = λ e e_key e_act. (e_key, e_act);
        commit = tt;
        gets = λ is_op moment st none stands. commit_readied disk count left is_seal before aged_ after now aged_is only room key token old_root offered tag head asks (is_op, types) moment st none stands;
        waits = (refl, asked_waits disk count left is_seal key token old_root offered tag now before after head asked);
        head = is.1;
        stage = is.0;
        same = same;
        next = next;
      }
  commit_comes (Err r) asks =
      let asked = subst (λ (s : StateView V S). AsksCommit disk count left is_seal key token old_root offered tag s (Err r) after) aged_is asks in record {
        types = types;
        keeps = λ e e_key e_act. (e_key, e_act);
        acts = commit_acts disk count left is_seal before aged_ after now aged_is only room key token old_root offered tag r asks;
        answered = commit_answered disk count left is_seal key token old_root offered tag now before after r asked;
        same = same;
        next = omega (arith, next);
        unpublished = λ c. asked_unmade disk count left is_seal key token old_root offered tag now before after r asked;
        calm = λ c. asked_calm disk count left is_seal key token old_root offered tag now before after r asked calm;
      }

fault_in : (fault : VaultFault) (r : Reply) → r ≡ reply_in fault → IsFault r
fault_in vault.Failed r e = inl e
fault_in vault.NoMemory r e = inr e

fault_uncommitted : (fault : VaultFault) → is_committed (reply_in fault) ≡ false
fault_uncommitted vault.Failed = refl
fault_uncommitted vault.NoMemory = refl

fault_shows : {V : Type 0} (disk : V → Option Disk) (v : V) (fault : VaultFault) → ShowsDamage disk v (reply_in fault)
fault_shows disk v vault.Failed = tt
fault_shows disk v vault.NoMemory = tt

module _ {V S : Type 0} (disk : V → Option Disk) (count : V → ℕ) (left : V → ℕ → Files → Type 0) (is_seal : S → List ℕ → List ℕ → Bool) (o : Op) (now : ℕ) (before mid after : StateView V S)
    (same : IsSameRepository before.line mid.line) (next : mid.next ≡ before.next) (room : before.next < last_number) where
  module _ (certain : mid.line.stage ≢ stage.Doubtful) (keeps : WhereTold (disk before.line.vault) (λ d. Walks disk count left on_way Nothing (λ d'. Unit {0}) d before.line.vault mid.line.vault))
      (resumes : Resumes disk count left before mid) (settles : (st : State) → StandsFor disk is_seal before st → Settles disk count left is_seal before (Ok tt) mid st) where
    takes_done : (t : Taken) → IsDone disk count left is_seal o now t mid after → Takes disk count left is_seal o now t before after
    takes_done t done = record {
      types = done.types;
      keeps = done.keeps;
      does = λ st stands e noted e_now e_act e_reply.
          let s = settles st stands in
          does_later disk count left is_seal o e before mid after st same s.0 s.1 s.2 (λ none stood. done.acts s.0 none stood e noted e_now e_act e_reply);
      proceeds = goes mid resumes (done.answered.exact certain);
      doubt = λ is. absurd (done.calm certain is);
      damage = damage_before disk count left before.line.vault mid.line.vault t.answer keeps done.answered.damage;
      same = same_then before.line mid.line after.line same done.same;
      next = (let d = done.next in omega (arith, next, d));
      unpublished = done.unpublished;
      calm = λ no_doubt. done.calm certain;
    }

    takes_ready : (w : Readied) → IsReadied disk count left is_seal o now w mid after → TakesReady disk count left is_seal o now w before after
    takes_ready w done = record {
      types = done.types;
      keeps = done.keeps;
      commit = done.commit;
      gets = λ is_op moment st stands.
          let s = settles st stands in
          ready_later disk count left is_seal o now w.token st s.0 s.1 stands.sound before mid after same s.2 (λ none stood. done.gets is_op moment s.0 none stood);
      from = mid;
      resumes = resumes;
      waits = done.waits;
      head = done.head;
      stage = done.stage;
      same = same_then before.line mid.line after.line same done.same;
      next = done.next ∙ next;
    }

    pub takes_course : (x : Course) → Courses disk count left is_seal o now x mid after → TakesCourse disk count left is_seal o now x before after
    takes_course (course.Done t) done = takes_done t done
    takes_course (course.Ready w) done = takes_ready w done

  pub takes_waiting : (t : Taken) (fault : VaultFault) → Awaits disk count left fault before mid → ((st : State) → StandsFor disk is_seal before st → Settles disk count left is_seal before (Err fault) mid st) → HasTypes o → IsDeclined o t
      → t.answer ≡ reply_in fault → Takes disk count left is_seal o now t before mid
  takes_waiting t fault awaits settles types declined is = record {
    types = types;
    keeps = declined.keeps;
    does = λ st stands e noted e_now e_act e_reply.
        let s = settles st stands in
        waits_does disk count left is_seal o e before mid st noted (subst (λ n. n < last_number) stands.next room) (fault_in fault e.reply (e_reply ∙ is)) (subst HasNoFresh (sym e_act) declined.none) s.0 s.1;
    proceeds = waits_for fault awaits is declined.none;
    doubt = λ is_now. fault_in fault t.answer is;
    damage = subst (ShowsDamage disk before.line.vault) (sym is) (fault_shows disk before.line.vault fault);
    same = same;
    next = omega (arith, next);
    unpublished = λ c. subst (λ r. is_committed r ≡ false) (sym is) (fault_uncommitted fault);
    calm = λ no_doubt. absurd (no_doubt awaits.doubtful);
  }

-- an op that is taken, and noted, is a step
pub steps_taken : {V S : Type 0} (disk : V → Option Disk) (count : V → ℕ) (left : V → ℕ → Files → Type 0) (is_seal : S → List ℕ → List ℕ → Bool) (o : Op) (seat now : ℕ) (t : Taken) (before after : GateView V S) (r : Reply)
    → IsOp o → IsMoment now → length before.journal < JOURNAL_LIMIT → Takes disk count left is_seal o now t before.state after.state → r ≡ t.answer → r ≢ reply.JournalFull
    → after.journal ≡ before.journal ++ record { seat = seat; now = now; key = t.key; act = t.act; reply = t.answer } ∷ [] → Steps disk count left is_seal o seat now before after r
steps_taken disk count left is_seal o seat now t before after r is_op moment room takes said never grown =
    let e : Entry = record { seat = seat; now = now; key = t.key; act = t.act; reply = t.answer } in
    made room never e refl refl (sym said) (takes.keeps e refl refl) grown takes.same
    (subst (λ x. Proceeds disk count left is_seal o now t.act x before.state after.state) (sym said) takes.proceeds)
    (λ doubt. subst IsFault (sym said) (takes.doubt doubt)) (subst (ShowsDamage disk before.state.line.vault) (sym said) takes.damage)
    (λ st stands. takes.does st stands e (record { op = (is_op, takes.types); now = moment; records = takes.keeps e refl refl }) refl refl refl)

-- ---- the two calls

-- it is over
pub begun_done : {V S : Type 0} (disk : V → Option Disk) (count : V → ℕ) (left : V → ℕ → Files → Type 0) (is_seal : S → List ℕ → List ℕ → Bool) (o : Op) (seat now : ℕ) (t : Taken) (before after : GateView V S) (r : Reply)
    → IsOp o → IsMoment now → length before.journal < JOURNAL_LIMIT → Takes disk count left is_seal o now t before.state after.state → r ≡ t.answer → r ≢ reply.JournalFull
    → after.journal ≡ before.journal ++ record { seat = seat; now = now; key = t.key; act = t.act; reply = t.answer } ∷ [] → after.ready ≡ None → Begins disk count left is_seal o seat now before after (Done r)
begun_done disk count left is_seal o seat now t before after r is_op moment room takes said never grown idle =
    over r (steps_taken disk count left is_seal o seat now t before after r is_op moment room takes said never grown) idle (λ c. subst (λ x. is_committed x ≡ false) (sym said) (takes.unpublished c)) takes.calm

-- it is ready
pub begun_ready : {V S : Type 0} (disk : V → Option Disk) (count : V → ℕ) (left : V → ℕ → Files → Type 0) (is_seal : S → List ℕ → List ℕ → Bool) (o : Op) (seat now : ℕ) (w : Readied) (before after : GateView V S)
    → IsOp o → IsMoment now → length before.journal < JOURNAL_LIMIT → TakesReady disk count left is_seal o now w before.state after.state → after.journal ≡ before.journal
    → after.ready ≡ Some (record { seat = seat; now = now; key = w.key; act = w.act; token = w.token }) → Begins disk count left is_seal o seat now before after (Ready w.head)
begun_ready disk count left is_seal o seat now w before after is_op moment room takes same there =
    let waiting : Waiting = record { seat = seat; now = now; key = w.key; act = w.act; token = w.token } in
    waits_ready w.head waiting there refl refl (λ r. takes.keeps (entry_of waiting r) refl refl) room same takes.commit takes.same takes.stage takes.head takes.from takes.resumes takes.waits (λ st stands. takes.gets is_op moment st stands)

-- what was done in one call is a step
pub done_steps : {V S : Type 0} (disk : V → Option Disk) (count : V → ℕ) (left : V → ℕ → Files → Type 0) (is_seal : S → List ℕ → List ℕ → Bool) (o : Op) (seat now : ℕ) (before after : GateView V S) (r : Reply)
    → Begins disk count left is_seal o seat now before after (Done r) → Steps disk count left is_seal o seat now before after r × (after.ready ≡ None)
done_steps disk count left is_seal o seat now before after r (over _ steps idle published calm) = (steps, idle)

module _ {V S : Type 0} (disk : V → Option Disk) (count : V → ℕ) (left : V → ℕ → Files → Type 0) (is_seal : S → List ℕ → List ℕ → Bool) (o : Op) (seat now : ℕ) (before mid after : GateView V S) (r : Reply) where
  never_full : (w : Waiting) → Finishes disk count left w.token mid.state r after.state → r ≢ reply.JournalFull
  never_full w (swaps moves is same) = λ e. (let k = sym is ∙ e in cc)
  never_full w (wavers moves is same) = λ e. (let k = sym is ∙ e in cc)
  never_full w (stays moves reads is same) = λ e. (let k = sym is ∙ e in cc)

  fault_then : (w : Waiting) → Finishes disk count left w.token mid.state r after.state → after.state.line.stage ≡ stage.Doubtful → IsFault r
  fault_then w (swaps moves is same) doubt = let k : after.state.line.stage ≡ stage.Calm = ap (λ (x : StateView V S). x.line.stage) same in cc
  fault_then w (wavers moves is same) doubt = inl is
  fault_then w (stays moves reads is same) doubt = inr is

  -- and so is what was done in two
  pub ready_steps : (head : Head) → Begins disk count left is_seal o seat now before mid (Ready head) → ((w : Waiting) → mid.ready ≡ Some w → EndsWaiting disk count left is_seal true w mid after r)
      → Steps disk count left is_seal o seat now before after r × (after.ready ≡ None)
  ready_steps head (waits_ready _ w there same_seat same_now noted room journal commit same at_ready is_head from resumes exact gets) ends =
      let x = ends w there in (
        made room (never_full w x.by) (entry_of w r) same_seat same_now refl (noted r) (x.journal ∙ ap (λ (j : List Entry). j ++ entry_of w r ∷ []) journal) (same_then before.state.line mid.state.line after.state.line same x.same)
            (goes from resumes (ended_exact disk count left is_seal o now w.act w.token from mid.state after.state r exact at_ready x.by))
            (fault_then w x.by) (finishes_shows disk count left w.token mid.state after.state r before.state.line.vault x.by) (λ st stands. does st w (gets st stands) (x.ends o st) noted same),
        x.idle,
      )
    where
      does : (st : State) (w : Waiting) → (g : GetsReady disk count left is_seal o w.now w.token before.state mid.state st)
          → ((new : Revision) (stored : State) → ((y : Reply) → Records (entry_of w y) o) → IsReadyIn disk is_seal mid.state w.token o w.now st new stored → EndsStep disk count left is_seal o (entry_of w r) st new stored mid.state after.state)
          → ((y : Reply) → Records (entry_of w y) o) → IsSameRepository before.state.line mid.state.line → Does disk count left is_seal o (entry_of w r) before.state after.state st
      does st w g ends noted same =
          let x = ends g.new g.stored noted g.ready in
          let p : Pending = record { op = o; now = w.now } in record {
            next = x.does.next;
            step = x.does.step;
            stands = x.does.stands;
            leaves = leaves_then g.leaves x.does.leaves (λ f y. y) (λ f y. survives_same is_seal before.state.line mid.state.line st (Some p) f same y);
          }

-- a commit that waited was ended, and is noted
pub waiting_ended : {V S : Type 0} (disk : V → Option Disk) (count : V → ℕ) (left : V → ℕ → Files → Type 0) (is_seal : S → List ℕ → List ℕ → Bool) (go : Bool) (w : Waiting) (before after : GateView V S) (r : Reply)
    → ((f : Files) → left before.state.line.vault (count before.state.line.vault) f → ImageOf (disk before.state.line.vault) f) → after.journal ≡ before.journal ++ entry_of w r ∷ [] → after.ready ≡ None
    → IsSameRepository before.state.line after.state.line → EndsBy disk count left go w.token before.state r after.state → EndsWaiting disk count left is_seal go w before after r
waiting_ended disk count left is_seal go w before after r only journal idle same by = record {
  journal = journal;
  idle = idle;
  same = same;
  by = by;
  ends = λ o st new stored noted is_ready. ends_step disk count left is_seal before.state w o st new stored noted is_ready only go r after.state by;
}
