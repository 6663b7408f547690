-- What is done inside a step.
use Rattle.std.specs.Prelude.{◌≡◌, ◌≢◌, ◌+◌, ◌≤◌, ℕ, Bool, true, false, IsSome, List, []}
use Rattle.std.specs.declared.option.Option.{Option}
use Rattle.std.specs.declared.option.Option.TheVariants.{None, Some}
use Rattle.std.specs.declared.result.Result.{Result}
use Rattle.std.specs.declared.result.Result.TheVariants.{Ok, Err}
use Rattle.cv_base.specs.Path.{Path}
use Rattle.cv_base.specs.Told.{WhereTold}
use Rattle.cv_base.specs.declared.id.ObjectId.{ObjectId}
use Rattle.cv_base.specs.declared.object.Object.{Object}
use Rattle.cv_base.specs.declared.token.Token.{Token}
use Rattle.cv_base.specs.Moment.{IsMoment}
use Rattle.cv_vault.specs.Disk.{Disk, Files}
use Rattle.cv_vault.specs.Moments.{LeavesOnly}
use Rattle.cv_vault.specs.declared.vault.VaultFault.{VaultFault}
use Rattle.cv_tree.specs.Tree.{Nodes}
use Rattle.cv_tree.specs.Changes.{has_place}
use Rattle.cv_cut.specs.Means.{Means}
use Rattle.cv_manifest.specs.declared.head.Head.{Head}
use Rattle.cv_leases.specs.Leases.{lease_of, without}
use Rattle.cv_objects.specs.Names.{standing_on}
use Rattle.cv_swap.specs.declared.stage.Stage.TheVariants as stage
use Rattle.cv_gate.specs.State.{State, Settled}
use Rattle.cv_gate.specs.Kept.{Pending}
use Rattle.cv_gate.specs.Laws.{is_committed}
use Rattle.cv_gate.specs.Step.{IsFault, IsOp, HasTypes, HasNoFresh, Records, IsNoted}
use Rattle.cv_gate.specs.declared.op.Op.{Op}
use Rattle.cv_gate.specs.declared.op.Op.TheVariants as op
use Rattle.cv_gate.specs.declared.act.Act.{Act}
use Rattle.cv_gate.specs.declared.act.Act.TheVariants as act
use Rattle.cv_gate.specs.declared.entry.Entry.{Entry}
use Rattle.cv_gate.specs.declared.reply.Reply.{Reply}
use Rattle.cv_gate.specs.declared.reply.Reply.TheVariants as reply
use Rattle.cv_desk.specs.Holds.{Survives}
use Rattle.cv_desk.specs.Gate.{StateView, StandsFor, IsSameRepository, IsCommit, Does, IsExact, Proceeds, ShowsDamage}
use Rattle.cv_desk.specs.Begin.{GetsReady, WaitsSo}
pub use Rattle.cv_desk.specs.Views.{at_vault, aged_view, next_token, new_lease, with_lease}
pub use Rattle.cv_desk.specs.Resuming.{token_in, newest_token, ended}
use Rattle.cv_desk.specs.Resuming.{Resumes}
pub use Rattle.cv_desk.specs.Refusals.{refusal_of, refusal_on}
use Rattle.cv_desk.specs.Refusals.{is_unread}
pub use Rattle.cv_desk.specs.Ends.{OnlyLooks, Sends}
use Rattle.cv_desk.specs.Ends.{BlamesParent, IsPlacedOn, FetchesWay}
use Rattle.cv_desk.specs.declared.taken.Taken.{Taken}
use Rattle.cv_desk.specs.declared.taken.Readied.{Readied}
use Rattle.cv_desk.specs.declared.taken.Course.{Course}
use Rattle.cv_desk.specs.declared.taken.Course.TheVariants as course

-- ---- what becomes of the state

-- From a state for which the gate stood it came to stand for another, and a crash meanwhile leaves what one in the first with any op in
-- progress may leave.
pub record ComesTo {V S : Type 0} (disk : V → Option Disk) (count : V → ℕ) (left : V → ℕ → Files → Type 0) (is_seal : S → List ℕ → List ℕ → Bool) (before after : StateView V S) (st st' : State) : Type 0 where
  pub stands : StandsFor disk is_seal after st'
  pub leaves : (p : Pending) → LeavesOnly count left (Survives before.line.name (is_seal before.line.signer) st (Some p)) before.line.vault after.line.vault

-- a commit in doubt is settled; or it isn't, and there is one
abbrev pub Settles : {V S : Type 0} (disk : V → Option Disk) (count : V → ℕ) (left : V → ℕ → Files → Type 0) → (S → List ℕ → List ℕ → Bool) → StateView V S → Result (Unit {0}) VaultFault → StateView V S → State → Type 0
Settles disk count left is_seal before (Ok done) after st = (settled : State) × Settled st settled × ComesTo disk count left is_seal before after st settled
Settles disk count left is_seal before (Err fault) after st = IsSome st.doubt × ComesTo disk count left is_seal before after st st

-- from whatever settled state the gate stood for, the op is done that an entry with this act, this moment and this reply notes
abbrev pub Acts : {V S : Type 0} (disk : V → Option Disk) (count : V → ℕ) (left : V → ℕ → Files → Type 0) → (S → List ℕ → List ℕ → Bool) → Op → ℕ → Act → Reply → StateView V S → StateView V S → Type 0
Acts disk count left is_seal o now a r before after =
    (st : State) → st.doubt ≡ None → StandsFor disk is_seal before st → (e : Entry) → IsNoted o e → e.now ≡ now → e.act ≡ a → e.reply ≡ r
    → Does disk count left is_seal o e before after st

-- ---- a lease is asked

-- whether the path has a place in the tree, or the disk failed, or memory was wanted
abbrev pub PlaceIs : Nodes → Path → Result Bool Reply → Type 0
PlaceIs t p (Ok there) = has_place t p ≡ there
PlaceIs t p (Err r) = IsFault r

-- the same of the tree that the newest root means, where the vault tells
abbrev pub FindsPlace : {V S : Type 0} (disk : V → Option Disk) → StateView V S → Path → Result Bool Reply → Type 0
FindsPlace disk s p r = WhereTold (disk s.line.vault) (λ d. (t : Nodes) → Means (standing_on d) s.line.head.root t → PlaceIs t p r)

-- a lease that nothing refuses is granted, or memory was wanted
pub data Grants {V S : Type 0} (key : List ℕ) (path : Path) (s : StateView V S) (r : Reply) (s' : StateView V S) : Type 0 where
  granted : r ≡ reply.Granted (next_token s) s.line.head.revision s.line.head.root → s' ≡ with_lease s key path → Grants key path s r s'
  unremembered : r ≡ reply.NoMemory → s' ≡ s → Grants key path s r s'

-- what comes of asking for a lease
pub data AsksLease {V S : Type 0} (disk : V → Option Disk) (count : V → ℕ) (left : V → ℕ → Files → Type 0) (key : List ℕ) (path : Path) (s : StateView V S) (r : Reply) (s' : StateView V S) : Type 0 where
  refused : refusal_of s.leases s.moment path ≡ Some r → s' ≡ s → AsksLease disk count left key path s r s'
  unread : refusal_of s.leases s.moment path ≡ None → is_unread r ≡ true → BlamesParent (disk s.line.vault) s.line.head.root path r → OnlyLooks disk count left s s' → FetchesWay disk path s s' → FindsPlace disk s path (Err r) → AsksLease disk count left key path s r s'
  placeless : refusal_of s.leases s.moment path ≡ None → OnlyLooks disk count left s s' → FetchesWay disk path s s' → FindsPlace disk s path (Ok false) → IsPlacedOn (disk s.line.vault) s.line.head.root path false → r ≡ reply.NoParent → AsksLease disk count left key path s r s'
  placed : (looked : StateView V S) → refusal_of s.leases s.moment path ≡ None → OnlyLooks disk count left s looked → FetchesWay disk path s looked → FindsPlace disk s path (Ok true) → IsPlacedOn (disk s.line.vault) s.line.head.root path true → Grants key path looked r s' → AsksLease disk count left key path s r s'

-- ---- something is asked of a lease

-- what comes of asking that a lease end
pub data AsksEnd {V S : Type 0} (key : List ℕ) (token : Token) (s : StateView V S) (r : Reply) (s' : StateView V S) : Type 0 where
  not_ended : refusal_on (lease_of token s.leases) key ≡ Some r → s' ≡ s → AsksEnd key token s r s'
  ends : refusal_on (lease_of token s.leases) key ≡ None → r ≡ reply.Cancelled → s' ≡ record s { leases = without token s.leases } → AsksEnd key token s r s'

-- what comes of sending a batch under a lease
pub data AsksStore {V S : Type 0} (disk : V → Option Disk) (count : V → ℕ) (left : V → ℕ → Files → Type 0) (key : List ℕ) (token : Token) (batch : List Object) (s : StateView V S) (r : Reply) (fresh : List ObjectId) (s' : StateView V S) : Type 0 where
  not_sent : refusal_on (lease_of token s.leases) key ≡ Some r → fresh ≡ [] → s' ≡ s → AsksStore disk count left key token batch s r fresh s'
  sends : refusal_on (lease_of token s.leases) key ≡ None → Sends disk count left batch s r fresh s' → AsksStore disk count left key token batch s r fresh s'

-- ---- an op is taken

-- the entry's key and act are those of the op, whatever else it has
abbrev pub Keeps : Op → Taken → Type 0
Keeps o t = (e : Entry) → e.key ≡ t.key → e.act ≡ t.act → Records e o

-- what holds of an op that was done, whatever the vault tells
pub record IsAnswered {V S : Type 0} (disk : V → Option Disk) (count : V → ℕ) (left : V → ℕ → Files → Type 0) (is_seal : S → List ℕ → List ℕ → Bool) (o : Op) (now : ℕ) (a : Act) (r : Reply) (before after : StateView V S) : Type 0 where
  pub exact : before.line.stage ≢ stage.Doubtful → IsExact disk count left is_seal o now a r before after
  pub damage : ShowsDamage disk before.line.vault r

-- the op was done, from whatever settled state
pub record IsDone {V S : Type 0} (disk : V → Option Disk) (count : V → ℕ) (left : V → ℕ → Files → Type 0) (is_seal : S → List ℕ → List ℕ → Bool) (o : Op) (now : ℕ) (t : Taken) (before after : StateView V S) : Type 0 where
  pub types : HasTypes o
  pub keeps : Keeps o t
  pub acts : Acts disk count left is_seal o now t.act t.answer before after
  pub answered : IsAnswered disk count left is_seal o now t.act t.answer before after
  pub same : IsSameRepository before.line after.line
  pub next : after.next ≤ before.next + 1
  pub unpublished : IsCommit o → is_committed t.answer ≡ false
  pub calm : before.line.stage ≢ stage.Doubtful → after.line.stage ≢ stage.Doubtful

-- it is a commit that got ready, from whatever settled state
pub record IsReadied {V S : Type 0} (disk : V → Option Disk) (count : V → ℕ) (left : V → ℕ → Files → Type 0) (is_seal : S → List ℕ → List ℕ → Bool) (o : Op) (now : ℕ) (w : Readied) (before after : StateView V S) : Type 0 where
  pub types : HasTypes o
  pub keeps : (e : Entry) → e.key ≡ w.key → e.act ≡ w.act → Records e o
  pub commit : IsCommit o
  pub gets : IsOp o → IsMoment now → (st : State) → st.doubt ≡ None → StandsFor disk is_seal before st → GetsReady disk count left is_seal o now w.token before after st
  pub waits : WaitsSo disk count left is_seal o now w.token before after
  pub head : w.head ≡ after.line.next_head
  pub stage : after.line.stage ≡ stage.Ready
  pub same : IsSameRepository before.line after.line
  pub next : after.next ≡ before.next

-- one or the other
abbrev pub Courses : {V S : Type 0} (disk : V → Option Disk) (count : V → ℕ) (left : V → ℕ → Files → Type 0) → (S → List ℕ → List ℕ → Bool) → Op → ℕ → Course → StateView V S → StateView V S → Type 0
Courses disk count left is_seal o now (course.Done t) before after = IsDone disk count left is_seal o now t before after
Courses disk count left is_seal o now (course.Ready w) before after = IsReadied disk count left is_seal o now w before after

-- what comes of a commit at a moment: it is answered, or made ready
abbrev pub ComesToCommit : {V S : Type 0} (disk : V → Option Disk) (count : V → ℕ) (left : V → ℕ → Files → Type 0) → (S → List ℕ → List ℕ → Bool) → List ℕ → Token → List ℕ → List ℕ → List ℕ → ℕ → StateView V S → Result Head Reply → StateView V S → Type 0
ComesToCommit disk count left is_seal key token old_root offered tag now before (Ok head) after =
    IsReadied disk count left is_seal (op.Commit key token old_root offered tag) now (record { key = key; act = act.Commit token old_root offered tag; token = token; head = head }) before after
ComesToCommit disk count left is_seal key token old_root offered tag now before (Err r) after =
    IsDone disk count left is_seal (op.Commit key token old_root offered tag) now (record { key = key; act = act.Commit token old_root offered tag; answer = r }) before after

-- the store failed
abbrev pub HasFailed : Course → Type 0
HasFailed (course.Done t) = t.answer ≡ reply.StoreFailed
HasFailed (course.Ready w) = ⊥

-- it wasn't, and no id is noted
pub record IsDeclined (o : Op) (t : Taken) : Type 0 where
  pub keeps : Keeps o t
  pub none : HasNoFresh t.act

-- A commit in doubt was settled, and the op was done; or it wasn't, and a fault is answered. From each state for which the gate stood
-- an entry of the op with what it came to is done.
pub record Takes {V S : Type 0} (disk : V → Option Disk) (count : V → ℕ) (left : V → ℕ → Files → Type 0) (is_seal : S → List ℕ → List ℕ → Bool) (o : Op) (now : ℕ) (t : Taken) (before after : StateView V S) : Type 0 where
  pub types : HasTypes o
  pub keeps : Keeps o t
  pub does : (st : State) → StandsFor disk is_seal before st → (e : Entry) → IsNoted o e → e.now ≡ now → e.act ≡ t.act → e.reply ≡ t.answer → Does disk count left is_seal o e before after st
  pub proceeds : Proceeds disk count left is_seal o now t.act t.answer before after
  pub doubt : after.line.stage ≡ stage.Doubtful → IsFault t.answer
  pub damage : ShowsDamage disk before.line.vault t.answer
  pub same : IsSameRepository before.line after.line
  pub next : after.next ≤ before.next + 1
  pub unpublished : IsCommit o → is_committed t.answer ≡ false
  pub calm : before.line.stage ≢ stage.Doubtful → after.line.stage ≢ stage.Doubtful

-- A commit in doubt was settled, and then a commit got ready.
pub record TakesReady {V S : Type 0} (disk : V → Option Disk) (count : V → ℕ) (left : V → ℕ → Files → Type 0) (is_seal : S → List ℕ → List ℕ → Bool) (o : Op) (now : ℕ) (w : Readied) (before after : StateView V S) : Type 0 where
  pub types : HasTypes o
  pub keeps : (e : Entry) → e.key ≡ w.key → e.act ≡ w.act → Records e o
  pub commit : IsCommit o
  pub gets : IsOp o → IsMoment now → (st : State) → StandsFor disk is_seal before st → GetsReady disk count left is_seal o now w.token before after st
  pub from : StateView V S
  pub resumes : Resumes disk count left before from
  pub waits : WaitsSo disk count left is_seal o now w.token from after
  pub head : w.head ≡ after.line.next_head
  pub stage : after.line.stage ≡ stage.Ready
  pub same : IsSameRepository before.line after.line
  pub next : after.next ≡ before.next

-- an op that is taken is over so, or is a commit that is ready
abbrev pub TakesCourse : {V S : Type 0} (disk : V → Option Disk) (count : V → ℕ) (left : V → ℕ → Files → Type 0) → (S → List ℕ → List ℕ → Bool) → Op → ℕ → Course → StateView V S → StateView V S → Type 0
TakesCourse disk count left is_seal o now (course.Done t) before after = Takes disk count left is_seal o now t before after
TakesCourse disk count left is_seal o now (course.Ready w) before after = TakesReady disk count left is_seal o now w before after
