-- A commit in two calls: it is made ready, and ended.
use Rattle.std.specs.Prelude.{◌≡◌, ◌≢◌, ℕ, ◌<◌, Bool, true, false, List, [], ◌∷◌, ◌++◌, length}
use Rattle.std.specs.declared.option.Option.{Option}
use Rattle.std.specs.declared.option.Option.TheVariants.{None, Some}
use Rattle.std.specs.declared.result.Result.TheVariants.{Ok}
use Rattle.cv_base.specs.Told.{WhereTold}
use Rattle.cv_base.specs.declared.token.Token.{Token}
use Rattle.cv_vault.specs.Disk.{Disk, Files}
use Rattle.cv_vault.specs.Moments.{LeavesOnly}
use Rattle.cv_graft.specs.declared.grafted.Grafted.{Grafted}
use Rattle.cv_manifest.specs.declared.head.Head.{Head}
use Rattle.cv_leases.specs.Leases.{lease_of}
use Rattle.cv_leases.specs.declared.lease.Lease.{Lease}
use Rattle.cv_objects.specs.Names.{standing_on}
use Rattle.cv_swap.specs.Kept.{Revision, head_of, head_with}
use Rattle.cv_swap.specs.Line.{published}
use Rattle.cv_swap.specs.declared.stage.Stage.TheVariants as stage
use Rattle.cv_gate.specs.State.{State}
use Rattle.cv_gate.specs.Sound.{Sound}
use Rattle.cv_gate.specs.Ready.{IsReady, Ends}
use Rattle.cv_gate.specs.Step.{Records}
use Rattle.cv_gate.specs.Laws.{is_committed}
use Rattle.cv_gate.specs.declared.entry.TheConstants.{JOURNAL_LIMIT}
use Rattle.cv_gate.specs.declared.op.Op.{Op}
use Rattle.cv_gate.specs.declared.op.Op.TheVariants as op
use Rattle.cv_gate.specs.declared.entry.Entry.{Entry}
use Rattle.cv_gate.specs.declared.reply.Reply.{Reply}
use Rattle.cv_gate.specs.declared.reply.Reply.TheVariants as reply
use Rattle.cv_desk.specs.Holds.{IsHeadOf, Survives}
use Rattle.cv_desk.specs.Gate.{StateView, GateView, StandsFor, IsSameRepository, IsCommit, Does, Steps}
use Rattle.cv_desk.specs.Views.{aged_view}
use Rattle.cv_desk.specs.Known.{KnowsOn}
use Rattle.cv_desk.specs.Resuming.{Resumes}
use Rattle.cv_desk.specs.Refusals.{refusal_on, opposition}
use Rattle.cv_desk.specs.Ends.{next_record, IsUnpublished}
use Rattle.cv_desk.specs.Committing.{IsFit, Readies, Finishes}
use Rattle.cv_desk.specs.declared.begun.Begun.{Begun}
use Rattle.cv_desk.specs.declared.begun.Begun.TheVariants.{Done, Ready}
use Rattle.cv_desk.specs.declared.waiting.Waiting.{Waiting}

-- the entry that the journal has of a commit that waited
abbrev pub entry_of : Waiting → Reply → Entry
entry_of w r = record { seat = w.seat; now = w.now; key = w.key; act = w.act; reply = r }

-- A commit is ready that was begun in a state at a moment: it passes there and makes this revision, its lease has this token, and the gate
-- stands for the state with its objects stored. The revision's record and head are behind the published ones, and the manifest says the head.
pub record IsReadyIn {V S : Type 0} (disk : V → Option Disk) (is_seal : S → List ℕ → List ℕ → Bool) (g : StateView V S) (token : Token) (o : Op) (now : ℕ) (st : State) (new : Revision) (stored : State) : Type 0 where
  pub sound : Sound st
  pub ready : IsReady st o now new stored
  pub lease : token ≡ new.record_.token
  pub stands : StandsFor disk is_seal g stored
  pub all : g.line.all ≡ published g.line ++ new.record_ ∷ []
  pub next_head : g.line.next_head ≡ head_of new
  pub says : IsHeadOf g.line.name (is_seal g.line.signer) new (Some g.line.manifest)

-- What it does for a state for which the gate stood that a commit is made ready: it is ready then, and a crash meanwhile leaves what a crash
-- within the commit may leave.
pub record GetsReady {V S : Type 0} (disk : V → Option Disk) (count : V → ℕ) (left : V → ℕ → Files → Type 0) (is_seal : S → List ℕ → List ℕ → Bool) (o : Op) (now : ℕ) (token : Token) (before after : StateView V S) (st : State) : Type 0 where
  pub new : Revision
  pub stored : State
  pub ready : IsReadyIn disk is_seal after token o now st new stored
  pub leaves : LeavesOnly count left (Survives before.line.name (is_seal before.line.signer) st (Some (record { op = o; now = now }))) before.line.vault after.line.vault

-- What it does to end it: the entry is a step of the state in which it was begun, by one of the three ends that are left, to a state for
-- which the gate stands; and a crash meanwhile leaves what a crash within the commit may leave.
pub record EndsStep {V S : Type 0} (disk : V → Option Disk) (count : V → ℕ) (left : V → ℕ → Files → Type 0) (is_seal : S → List ℕ → List ℕ → Bool) (o : Op) (e : Entry) (st : State) (new : Revision) (stored : State) (before after : StateView V S) : Type 0 where
  pub does : Does disk count left is_seal o e before after st
  pub ends : Ends new stored e.reply does.next

-- ---- whatever the vault tells

-- Nothing that the leases, the moment and the published revisions say refuses the commit; the offered root is good and the new tree fits, by
-- what stands on the disk; all of the revision was brought but its head, and nothing was published: its record and its head are behind the
-- published ones.
pub record CommitWaits {V S : Type 0} (disk : V → Option Disk) (count : V → ℕ) (left : V → ℕ → Files → Type 0) (is_seal : S → List ℕ → List ℕ → Bool) (key : List ℕ) (token : Token) (old_root offered tag : List ℕ) (s s' : StateView V S) : Type 0 where
  pub lease : Lease
  pub grafted : Grafted
  pub free : refusal_on (lease_of token s.leases) key ≡ None
  pub live : lease_of token s.leases ≡ Some lease
  pub unopposed : opposition s.line lease.from_revision old_root tag ≡ None
  pub fit : WhereTold (disk s.line.vault) (λ d. IsFit (standing_on d) s.line.head.root offered lease.path grafted)
  pub readies : Readies disk count left is_seal s.known lease key s.moment offered tag s.line s'.line (Ok (head_with (next_record s.line.head lease key s.moment grafted offered tag) grafted.size))
  pub knows : KnowsOn {X = Head} disk s.line.vault s.known offered (Ok (head_with (next_record s.line.head lease key s.moment grafted offered tag) grafted.size)) s'.known
  pub others : s' ≡ record s { line = s'.line; known = s'.known }
  pub unpublished : IsUnpublished s s'
  pub all : s'.line.all ≡ published s.line ++ next_record s.line.head lease key s.moment grafted offered tag ∷ []
  pub next_head : s'.line.next_head ≡ head_with (next_record s.line.head lease key s.moment grafted offered tag) grafted.size

-- the op is a commit under the lease with the token, and is ready
abbrev pub WaitsSo : {V S : Type 0} (disk : V → Option Disk) (count : V → ℕ) (left : V → ℕ → Files → Type 0) → (S → List ℕ → List ℕ → Bool) → Op → ℕ → Token → StateView V S → StateView V S → Type 0
WaitsSo disk count left is_seal (op.Lease key path) now token s s' = ⊥
WaitsSo disk count left is_seal (op.Store key t digest batch) now token s s' = ⊥
WaitsSo disk count left is_seal (op.Commit key t old_root new_root tag) now token s s' = (token ≡ t) × CommitWaits disk count left is_seal key t old_root new_root tag (aged_view s now) s'
WaitsSo disk count left is_seal (op.Cancel key t) now token s s' = ⊥

-- ---- the two calls

-- What comes of beginning an op. It is over, and noted as by a step; but its commit wasn't published so, and where none was in doubt none is. Or
-- it is a commit that is ready, and is noted when it is ended.
pub data Begins {V S : Type 0} (disk : V → Option Disk) (count : V → ℕ) (left : V → ℕ → Files → Type 0) (is_seal : S → List ℕ → List ℕ → Bool) (o : Op) (seat now : ℕ) (before after : GateView V S) : Begun → Type 0 where
  over : (r : Reply) → Steps disk count left is_seal o seat now before after r → after.ready ≡ None → (IsCommit o → is_committed r ≡ false)
      → (before.state.line.stage ≢ stage.Doubtful → after.state.line.stage ≢ stage.Doubtful) → Begins disk count left is_seal o seat now before after (Done r)
  waits : (head : Head) (w : Waiting) → after.ready ≡ Some w → w.seat ≡ seat → w.now ≡ now → ((r : Reply) → Records (entry_of w r) o)
      → length before.journal < JOURNAL_LIMIT → after.journal ≡ before.journal → IsCommit o → IsSameRepository before.state.line after.state.line
      → after.state.line.stage ≡ stage.Ready → head ≡ after.state.line.next_head
      → (from : StateView V S) → Resumes disk count left before.state from → WaitsSo disk count left is_seal o now w.token from after.state
      → ((st : State) → StandsFor disk is_seal before.state st → GetsReady disk count left is_seal o w.now w.token before.state after.state st)
      → Begins disk count left is_seal o seat now before after (Ready head)

-- how a commit that is ready is ended: by its swap, or given up, with nothing done
abbrev pub EndsBy : {V S : Type 0} (disk : V → Option Disk) (count : V → ℕ) (left : V → ℕ → Files → Type 0) → Bool → Token → StateView V S → Reply → StateView V S → Type 0
EndsBy disk count left true token s r s' = Finishes disk count left token s r s'
EndsBy disk count left false token s r s' = (r ≡ reply.NoMemory) × (s' ≡ s)

-- What comes of ending the commit that is ready: it is noted, and no commit is ready any more. In whatever state it was begun and is ready, it
-- ends as its step.
pub record EndsWaiting {V S : Type 0} (disk : V → Option Disk) (count : V → ℕ) (left : V → ℕ → Files → Type 0) (is_seal : S → List ℕ → List ℕ → Bool) (go : Bool) (w : Waiting) (before after : GateView V S) (r : Reply) : Type 0 where
  pub journal : after.journal ≡ before.journal ++ entry_of w r ∷ []
  pub idle : after.ready ≡ None
  pub same : IsSameRepository before.state.line after.state.line
  pub by : EndsBy disk count left go w.token before.state r after.state
  pub ends : (o : Op) (st : State) (new : Revision) (stored : State) → ((x : Reply) → Records (entry_of w x) o) → IsReadyIn disk is_seal before.state w.token o w.now st new stored
      → EndsStep disk count left is_seal o (entry_of w r) st new stored before.state after.state
