-- The states for which a gate stands, its opening, and its steps.
use Rattle.std.specs.Prelude.{◌≡◌, ◌≢◌, ◌⊎◌, ℕ, ◌+◌, ◌<◌, ◌≤◌, Bool, false, List, [], ◌∷◌, ◌++◌, length, IfSome, IsSome}
use Rattle.std.specs.declared.option.Option.{Option}
use Rattle.std.specs.declared.option.Option.TheVariants.{None, Some}
use Rattle.std.specs.declared.result.Result.{Result}
use Rattle.std.specs.declared.result.Result.TheVariants.{Ok, Err}
use Rattle.cv_base.specs.Path.{Path}
use Rattle.cv_base.specs.Told.{WhereTold}
use Rattle.cv_vault.specs.Disk.{Disk, File, Files, May, files_now}
use Rattle.cv_vault.specs.Moments.{LeavesOnly}
use Rattle.cv_vault.specs.declared.vault.VaultFault.{VaultFault}
use Rattle.cv_ports.specs.Shelf.{HasOtherDigest}
use Rattle.cv_objects.specs.Names.{standing_on}
use Rattle.cv_load.specs.Known.{is_known}
use Rattle.cv_swap.specs.Kept.{Kept, Revision, newest, records_of, head_of}
use Rattle.cv_swap.specs.Line.{LineView, published}
use Rattle.cv_swap.specs.Opening.{Opens}
use Rattle.cv_swap.specs.Stands.{Stands, head_name}
use Rattle.cv_swap.specs.declared.found.Found.{Found}
use Rattle.cv_swap.specs.declared.open_fault.OpenFault.{OpenFault}
use Rattle.cv_swap.specs.declared.open_fault.OpenFault.TheVariants as open_fault
use Rattle.cv_swap.specs.declared.stage.Stage.TheVariants as stage
use Rattle.cv_gate.specs.State.{State, aged}
use Rattle.cv_gate.specs.Sound.{Sound}
use Rattle.cv_gate.specs.Step.{Step, Records, CancelStep, IsFault, HasNoFresh}
use Rattle.cv_gate.specs.Kept.{reopened}
use Rattle.cv_gate.specs.declared.entry.TheConstants.{JOURNAL_LIMIT}
use Rattle.cv_gate.specs.declared.op.Op.{Op}
use Rattle.cv_gate.specs.declared.op.Op.TheVariants as op
use Rattle.cv_gate.specs.declared.act.Act.{Act}
use Rattle.cv_gate.specs.declared.reply.Reply.{Reply}
use Rattle.cv_gate.specs.declared.reply.Reply.TheVariants as reply
use Rattle.cv_gate.specs.declared.entry.Entry.{Entry}
use Rattle.cv_desk.specs.Holds.{IsHeadOf, Holds, Survives}
pub use Rattle.cv_desk.specs.Views.{StateView, GateView}
use Rattle.cv_desk.specs.Views.{aged_view}
use Rattle.cv_desk.specs.Ends.{LeaseEnds, StoreEnds}
use Rattle.cv_desk.specs.Committing.{CommitEnds}
use Rattle.cv_desk.specs.Resuming.{Resumes, Awaits}
use Rattle.cv_desk.specs.Sending.{reply_in}

-- ---- the state for which it stands

-- The line's head in doubt is that of the revision: the line has its record and its manifest, and the head's file is this very
-- manifest, or says the revision before.
pub record IsInDoubt {V S : Type 0} (is_seal : S → List ℕ → List ℕ → Bool) (l : LineView V S) (d : Disk) (history : List Revision) (new : Revision) : Type 0 where
  pub stage : l.stage ≡ stage.Doubtful
  pub all : l.all ≡ published l ++ new.record_ ∷ []
  pub next_head : l.next_head ≡ head_of new
  pub says : IsHeadOf l.name (is_seal l.signer) new (Some l.manifest)
  pub either : (f : File) → May (d head_name) f → (f ≡ Some l.manifest) ⊎ IfSome (newest history) (λ old. IsHeadOf l.name (is_seal l.signer) old f)

-- what the line knows of a doubt
abbrev pub KnowsDoubt : {V S : Type 0} → (S → List ℕ → List ℕ → Bool) → LineView V S → Disk → List Revision → Option Revision → Type 0
KnowsDoubt is_seal l d history None = l.stage ≢ stage.Doubtful
KnowsDoubt is_seal l d history (Some new) = IsInDoubt is_seal l d history new

-- the vault tells a disk that holds the state, and the gate knows the rest of the state
pub record StandsFor {V S : Type 0} (disk : V → Option Disk) (is_seal : S → List ℕ → List ℕ → Bool) (g : StateView V S) (st : State) : Type 0 where
  pub sound : Sound st
  pub end : Disk
  pub told : disk g.line.vault ≡ Some end
  pub holds : Holds g.line.name (is_seal g.line.signer) end st
  pub records : published g.line ≡ records_of st.history
  pub head : IfSome (newest st.history) (λ r. g.line.head ≡ head_of r)
  pub doubt : KnowsDoubt is_seal g.line end st.history st.doubt
  pub epoch : g.line.epoch ≡ st.epoch
  pub leases : g.leases ≡ st.leases
  pub moment : g.moment ≡ st.moment
  pub next : g.next ≡ st.next

-- ---- what holds at any time, whatever the vault tells

-- a state with these leases, of which nothing else is said
abbrev pub state_of : {V S : Type 0} → StateView V S → State
state_of g = record { history = []; leases = g.leases; doubt = None; shelf = λ id. None; loose = λ id. false; moment = g.moment; epoch = g.line.epoch; next = g.next }

-- where a commit is ready its record and its manifest wait, and the journal has a place for it
pub record IsGate {V S : Type 0} (g : GateView V S) : Type 0 where
  pub next : g.state.next ≤ length g.journal + 1
  pub count : length g.journal ≤ JOURNAL_LIMIT
  pub waits : IsSome g.ready → g.state.line.stage ≡ stage.Ready
  pub room : IsSome g.ready → length g.journal < JOURNAL_LIMIT

-- ---- opening

-- the repository is the same
pub record IsSameRepository {V S : Type 0} (before after : LineView V S) : Type 0 where
  pub name_ : after.name ≡ before.name
  pub signer_ : after.signer ≡ before.signer
  pub epoch_ : after.epoch ≡ before.epoch

-- it begins without leases, with an empty journal, without a commit that is in doubt or ready, and knows no catalogue
pub record IsNew {V S : Type 0} (name : List ℕ) (signer : S) (g : GateView V S) : Type 0 where
  pub named : g.state.line.name ≡ name
  pub signed : g.state.line.signer ≡ signer
  pub leases : g.state.leases ≡ []
  pub moment : g.state.moment ≡ 0
  pub next : g.state.next ≡ 1
  pub journal : g.journal ≡ []
  pub calm : g.state.line.stage ≢ stage.Doubtful
  pub idle : g.ready ≡ None
  pub unknown : (hash : List ℕ) (path : Path) → is_known g.state.known hash path ≡ false

-- the files were opened with what was found: the gate has its records and its head, in the epoch behind it; and where the files stood for
-- what is kept, the gate stands for it, opened once more
pub record IsOpened {V S : Type 0} (disk : V → Option Disk) (count : V → ℕ) (left : V → ℕ → Files → Type 0) (name : List ℕ) (is_seal : S → List ℕ → List ℕ → Bool) (signer : S) (d : Disk) (v : V) (g : GateView V S) : Type 0 where
  pub found : Found
  pub opens : Opens disk count left name (is_seal signer) d (Ok found) v g.state.line.vault
  pub records : g.state.line.all ≡ found.records
  pub head : g.state.line.head ≡ found.head
  pub epoch : g.state.line.epoch ≡ found.epoch + 1
  pub stands : (k : Kept) → Stands g.state.line.name (is_seal g.state.line.signer) (files_now d) k → StandsFor disk is_seal g.state (reopened k)

-- a gate is opened, or the vault is handed back with why it isn't: as it was, where there was no memory for the journal
abbrev pub GateOpens : {V S : Type 0} (disk : V → Option Disk) (count : V → ℕ) (left : V → ℕ → Files → Type 0) → List ℕ → (S → List ℕ → List ℕ → Bool) → S → Disk → V → Result (GateView V S) (OpenFault × V) → Type 0
GateOpens disk count left name is_seal signer d v (Ok g) = IsOpened disk count left name is_seal signer d v g
GateOpens disk count left name is_seal signer d v (Err e) = Opens disk count left name (is_seal signer) d (Err e.0) v e.1 ⊎ ((e.0 ≡ open_fault.NoMemory) × (e.1 ≡ v))

abbrev pub vault_of : {V S : Type 0} → Result (GateView V S) (OpenFault × V) → V
vault_of (Ok g) = g.state.line.vault
vault_of (Err e) = e.1

abbrev pub IsFailed : {V S : Type 0} → Result (GateView V S) (OpenFault × V) → Type 0
IsFailed (Ok g) = ⊥
IsFailed (Err e) = e.0 ≡ open_fault.Failed

-- ---- a step

-- What comes of an op whatever the vault tells: what the leases, the moment and the published revisions refuse is refused so, and only
-- that. An end of a lease is the gate's step on the leases alone: nothing is done to the line, and what is known of catalogues stays.
abbrev pub EndsSo : {V S : Type 0} (disk : V → Option Disk) (count : V → ℕ) (left : V → ℕ → Files → Type 0) → (S → List ℕ → List ℕ → Bool) → Op → ℕ → Act → Reply → StateView V S → StateView V S → Type 0
EndsSo disk count left is_seal (op.Lease key path) now a r s s' = LeaseEnds disk count left key path (aged_view s now) r s'
EndsSo disk count left is_seal (op.Store key token digest batch) now a r s s' = StoreEnds disk count left key token digest batch a (aged_view s now) r s'
EndsSo disk count left is_seal (op.Commit key token old_root new_root tag) now a r s s' = CommitEnds disk count left is_seal key token old_root new_root tag (aged_view s now) r s'
EndsSo disk count left is_seal (op.Cancel key token) now a r s s' = CancelStep (aged (state_of s) now) key token r (state_of s') × (s'.line ≡ s.line) × (s'.known ≡ s.known)

-- bytes that are said to have another digest stand under the id that is named, where a disk is told
abbrev pub ShowsDamage : {V : Type 0} → (V → Option Disk) → V → Reply → Type 0
ShowsDamage disk v (reply.Damaged id found) = WhereTold (disk v) (λ d. HasOtherDigest (standing_on d) id found)
ShowsDamage disk v other = Unit {0}

abbrev pub IsCommit : Op → Type 0
IsCommit (op.Lease key path) = ⊥
IsCommit (op.Store key token digest batch) = ⊥
IsCommit (op.Commit key token old_root new_root tag) = Unit {0}
IsCommit (op.Cancel key token) = ⊥

-- a commit is in doubt now, and the store failed in it
pub record Wavers (o : Op) (r : Reply) : Type 0 where
  pub commit : IsCommit o
  pub failed : r ≡ reply.StoreFailed

-- what holds of a reply, and of what is noted, whatever the vault tells, where no commit was in doubt
pub record IsExact {V S : Type 0} (disk : V → Option Disk) (count : V → ℕ) (left : V → ℕ → Files → Type 0) (is_seal : S → List ℕ → List ℕ → Bool) (o : Op) (now : ℕ) (a : Act) (r : Reply) (before after : StateView V S) : Type 0 where
  pub ends : EndsSo disk count left is_seal o now a r before after
  pub doubt : after.line.stage ≡ stage.Doubtful → Wavers o r

-- What comes of an op whatever the vault tells: a commit is in doubt, the op waits, and the fault is answered; or the op goes on, from where
-- the doubt was settled if there was one.
pub data Proceeds {V S : Type 0} (disk : V → Option Disk) (count : V → ℕ) (left : V → ℕ → Files → Type 0) (is_seal : S → List ℕ → List ℕ → Bool) (o : Op) (now : ℕ) (a : Act) (r : Reply) (before after : StateView V S) : Type 0 where
  waits : (fault : VaultFault) → Awaits disk count left fault before after → r ≡ reply_in fault → HasNoFresh a → Proceeds disk count left is_seal o now a r before after
  goes : (from : StateView V S) → Resumes disk count left before from → IsExact disk count left is_seal o now a r from after → Proceeds disk count left is_seal o now a r before after

-- What a step does for a state for which the gate stood: the entry is a step to a state for which it then stands, and a crash at any
-- moment of the call leaves what a crash within the op may leave.
pub record Does {V S : Type 0} (disk : V → Option Disk) (count : V → ℕ) (left : V → ℕ → Files → Type 0) (is_seal : S → List ℕ → List ℕ → Bool) (o : Op) (e : Entry) (before after : StateView V S) (st : State) : Type 0 where
  pub next : State
  pub step : Step st o e next
  pub stands : StandsFor disk is_seal after next
  pub leaves : LeavesOnly count left (Survives before.line.name (is_seal before.line.signer) st (Some (record { op = o; now = e.now }))) before.line.vault after.line.vault

-- The journal grows by one entry, which records the op, the seat and the moment with this reply, whatever the vault tells; and after
-- a reply that is no fault no commit is in doubt. Where the journal is full nothing is done.
pub data Steps {V S : Type 0} (disk : V → Option Disk) (count : V → ℕ) (left : V → ℕ → Files → Type 0) (is_seal : S → List ℕ → List ℕ → Bool) (o : Op) (seat now : ℕ) (before after : GateView V S) (r : Reply) : Type 0 where
  full : length before.journal ≡ JOURNAL_LIMIT → r ≡ reply.JournalFull → after ≡ before → Steps disk count left is_seal o seat now before after r
  made : length before.journal < JOURNAL_LIMIT → r ≢ reply.JournalFull → (e : Entry) → e.seat ≡ seat → e.now ≡ now → e.reply ≡ r → Records e o
      → after.journal ≡ before.journal ++ e ∷ [] → IsSameRepository before.state.line after.state.line
      → Proceeds disk count left is_seal o now e.act r before.state after.state
      → (after.state.line.stage ≡ stage.Doubtful → IsFault r)
      → ShowsDamage disk before.state.line.vault r
      → ((st : State) → StandsFor disk is_seal before.state st → Does disk count left is_seal o e before.state after.state st)
      → Steps disk count left is_seal o seat now before after r
