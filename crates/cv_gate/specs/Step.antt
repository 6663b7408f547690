-- One step of the gate, as an entry of its journal records it.
use Rattle.std.specs.Prelude.{◌≡◌, ◌≢◌, ◌⊎◌, ℕ, ◌+◌, ◌-◌, ◌<◌, ◌≤◌, true, false, bytes_eq, List, [], ◌∷◌, ◌++◌, length, None, Some, IsSome}
use Rattle.std.specs.List.{AllByRecursion}
use Rattle.sha1.specs.Sha1.{sha1}
use Rattle.cv_base.specs.Digest.{IsDigest}
use Rattle.cv_base.specs.Path.{Path, IsPath}
use Rattle.cv_base.specs.Marker.{marker, ends_in}
use Rattle.cv_base.specs.ObjectId.{object_id}
use Rattle.cv_base.specs.declared.id.ObjectId.{ObjectId}
use Rattle.cv_base.specs.declared.id.Kind.TheVariants.{History}
use Rattle.cv_base.specs.declared.object.Object.{Object}
use Rattle.cv_base.specs.declared.token.Token.{Token}
use Rattle.cv_base.specs.Token.{last_number}
use Rattle.cv_base.specs.Moment.{IsMoment}
use Rattle.cv_tree.specs.Tree.{Nodes}
use Rattle.cv_tree.specs.Changes.{has_place}
use Rattle.cv_cut.specs.Catalogues.{SharesKey, IsFull}
use Rattle.cv_cut.specs.Means.{Means}
use Rattle.cv_cut.specs.Reached.{Lacking, Bad}
use Rattle.cv_leases.specs.declared.limits.TheConstants.{LEASE_LIMIT}
use Rattle.cv_leases.specs.Leases.{busy, lease_of, without}
use Rattle.cv_leases.specs.declared.lease.Lease.{Lease}
use Rattle.cv_objects.specs.Fresh.{fresh_of}
use Rattle.cv_objects.specs.Coming.{ClashesOn}
use Rattle.cv_base.specs.declared.limits.TheConstants.{LAST_REVISION}
use Rattle.cv_swap.specs.Kept.{Revision, newest}
use Rattle.cv_gate.specs.State.{State, aged, with_revision, Settled}
use Rattle.cv_gate.specs.Objects.{GainsSome, GainsAll}
use Rattle.cv_gate.specs.Commits.{is_base, IsTaken, committed, made}
use Rattle.cv_gate.specs.Passing.{granted, IsFree, Passes}
use Rattle.cv_gate.specs.declared.op.Op.{Op}
use Rattle.cv_gate.specs.declared.op.Op.TheVariants as op
use Rattle.cv_gate.specs.declared.act.Act.{Act}
use Rattle.cv_gate.specs.declared.act.Act.TheVariants as act
use Rattle.cv_gate.specs.declared.reply.Reply.{Reply}
use Rattle.cv_gate.specs.declared.reply.Reply.TheVariants as reply
use Rattle.cv_gate.specs.declared.entry.Entry.{Entry}
pub use Rattle.cv_base.specs.KeyId.{is_key_id}
pub use Rattle.cv_base.specs.Tag.{is_tag}

-- ---- refusals in their order

-- where some x has P, the reply names such an x and nothing changes; where none has, the rest decides
abbrev pub Refuses : {X : Type 0} → State → Reply → State → (X → Type 0) → (X → Reply) → Type 0 → Type 0
Refuses st r st' P say rest = ((x : _) × P x × (r ≡ say x) × (st' ≡ st)) ⊎ (((x : _) → P x → ⊥) × rest)

-- the same of a condition that names nothing
abbrev pub RefusesIf : State → Reply → State → Type 0 → Reply → Type 0 → Type 0
RefusesIf st r st' P say rest = (P × (r ≡ say) × (st' ≡ st)) ⊎ ((P → ⊥) × rest)

-- the disk failed, or memory was wanted
abbrev pub IsFault : Reply → Type 0
IsFault r = (r ≡ reply.StoreFailed) ⊎ (r ≡ reply.NoMemory)

-- such a fault may stand here in the order, and changes nothing
abbrev pub MayFail : State → Reply → State → Type 0 → Type 0
MayFail st r st' rest = (IsFault r × (st' ≡ st)) ⊎ rest

-- memory may be wanted anywhere
abbrev pub MayLackMemory : State → Reply → State → Type 0 → Type 0
MayLackMemory st r st' rest = ((r ≡ reply.NoMemory) × (st' ≡ st)) ⊎ rest

-- ---- a lease is asked

-- nothing stands against it: the lease is added last
pub data Grants (st : State) (key : List ℕ) (p : Path) (r : Reply) (st' : State) : Type 0 where
  adds : (head : Revision) → IsFree st p head
      → r ≡ reply.Granted (record { epoch = st.epoch; number = st.next }) head.record_.revision head.record_.root
      → st' ≡ record st { leases = st.leases ++ granted st key p head ∷ []; next = st.next + 1 } → Grants st key p r st'

abbrev pub LeaseStep : State → List ℕ → Path → Reply → State → Type 0
LeaseStep st key p r st' =
    RefusesIf st r st' (ends_in marker p ≡ true) reply.BadPath (
    Refuses st r st' (λ (lease : Lease). busy st.leases p ≡ Some lease) (λ lease. reply.PathBusy lease.token (lease.deadline - st.moment)) (
    RefusesIf st r st' (LEASE_LIMIT ≤ length st.leases) reply.TooManyLeases (
    MayFail st r st' (
    (head : Revision) × (newest st.history ≡ Some head) × (
    RefusesIf st r st' (has_place head.tree p ≡ false) reply.NoParent (
    Grants st key p r st'))))))

-- ---- something is asked of a lease

-- the lease has the token, and is the key's
abbrev pub OnLease : State → List ℕ → Token → Reply → State → (Lease → Type 0) → Type 0
OnLease st key token r st' does =
    RefusesIf st r st' (lease_of token st.leases ≡ None) reply.InvalidToken (
    (lease : Lease) × (lease_of token st.leases ≡ Some lease) × (
    RefusesIf st r st' (bytes_eq lease.key key ≡ false) reply.WrongKey (does lease)))

-- ---- objects are sent

abbrev pub Stores : State → List Object → Reply → State → Type 0
Stores st batch r st' =
    (IsFault r × GainsSome batch st st') ⊎ (
    Refuses st r st' (ClashesOn st.shelf batch) reply.Collision (
    (r ≡ reply.Stored) × GainsAll batch st st'))

abbrev pub StoreStep : State → List ℕ → Token → List Object → Reply → State → Type 0
StoreStep st key token batch r st' = OnLease st key token r st' (λ lease. Stores st batch r st')

-- the ids that the entry has as fresh: those that the shelf lacked, or none where a refusal or a fault came before they were
-- known, and nothing changed
abbrev pub FreshIs : State → List Object → Reply → State → List ObjectId → Type 0
FreshIs st batch r st' fresh =
    ((fresh ≡ fresh_of batch st.shelf) × ((r ≡ reply.Stored) ⊎ IsFault r)) ⊎ ((fresh ≡ []) × (r ≢ reply.Stored) × (st' ≡ st))

-- ---- a commit is asked

-- the end of a commit whose tree fits: its objects clash, or a fault came, with some of them there; or nothing refuses it
pub data Publishes (st : State) (key : List ℕ) (token : Token) (old_root new_root tag : List ℕ) (new : Revision) (r : Reply) (st' : State) : Type 0 where
  collides : (id : ObjectId) → ClashesOn st.shelf (made new) id → r ≡ reply.Collision id → GainsSome (made new) st st'
      → Publishes st key token old_root new_root tag new r st'
  fails : IsFault r → GainsSome (made new) st st' → Publishes st key token old_root new_root tag new r st'
  commits : Passes st key token old_root new_root tag new → r ≡ reply.Committed new.record_.revision new.record_.root
      → (stored : State) → GainsAll (made new) st stored → st' ≡ with_revision stored new → Publishes st key token old_root new_root tag new r st'
  -- the swap failed, so that the commit is in doubt
  doubts : Passes st key token old_root new_root tag new → r ≡ reply.StoreFailed
      → (stored : State) → GainsAll (made new) st stored → st' ≡ record stored { doubt = Some new } → Publishes st key token old_root new_root tag new r st'

-- the offered root means no tree, and the reply names what is lacking or bad
pub record MeansNone (st : State) (root : List ℕ) (r : Reply) (st' : State) : Type 0 where
  pub none : (n : Nodes) → Means st.shelf root n → ⊥
  pub id : ObjectId
  pub why : ((r ≡ reply.MissingObject id) × Lacking st.shelf root id) ⊎ ((r ≡ reply.BadCatalogue id) × Bad st.shelf root id)
  pub same : st' ≡ st

abbrev pub Commits : State → List ℕ → Token → List ℕ → List ℕ → List ℕ → Reply → State → Lease → Type 0
Commits st key token old_root new_root tag r st' lease =
    (head : Revision) × (newest st.history ≡ Some head) × (
    RefusesIf st r st' (LAST_REVISION ≤ head.record_.revision) reply.RevisionsFull (
    RefusesIf st r st' (is_base st.history lease.from_revision old_root ≡ false) (reply.StaleBase lease.from_revision) (
    Refuses st r st' (IsTaken st.history tag) (λ taken. reply.TagTaken taken.record_.revision) (
    MayFail st r st' (
    MeansNone st new_root r st' ⊎ (
    (n : Nodes) × Means st.shelf new_root n × (
    let new : Revision = committed st.moment head lease n new_root tag in
    Refuses st r st' (λ (pq : Path × Path). SharesKey new.tree pq.0 pq.1) (λ pq. reply.PathCollision pq.0 pq.1) (
    Refuses st r st' (IsFull new.tree) reply.CatalogueFull (
    Publishes st key token old_root new_root tag new r st')))))))))

abbrev pub CommitStep : State → List ℕ → Token → List ℕ → List ℕ → List ℕ → Reply → State → Type 0
CommitStep st key token old_root new_root tag r st' = OnLease st key token r st' (Commits st key token old_root new_root tag r st')

-- ---- the end of a lease is asked

-- the lease ends
pub data Cancels (st : State) (token : Token) (r : Reply) (st' : State) : Type 0 where
  takes : r ≡ reply.Cancelled → st' ≡ record st { leases = without token st.leases } → Cancels st token r st'

abbrev pub CancelStep : State → List ℕ → Token → Reply → State → Type 0
CancelStep st key token r st' = OnLease st key token r st' (λ lease. Cancels st token r st')

-- ---- the step

-- the object has the id of its bytes, and is no record of the history
abbrev pub IsSent : Object → Type 0
IsSent object = (object.id ≡ object_id (sha1 object.bytes) object.id.kind) × (object.id.kind ≢ History)

-- what may be asked
abbrev pub IsOp : Op → Type 0
IsOp (op.Lease key path) = is_key_id key ≡ true
IsOp (op.Store key token digest batch) = (is_key_id key ≡ true) × AllByRecursion IsSent batch
IsOp (op.Commit key token old_root new_root tag) = (is_key_id key ≡ true) × (is_tag tag ≡ true)
IsOp (op.Cancel key token) = is_key_id key ≡ true

-- what a step needs of the types of an op's fields: a path is one, and a digest has twenty bytes
abbrev pub HasTypes : Op → Type 0
HasTypes (op.Lease key path) = IsPath path
HasTypes (op.Store key token digest batch) = IsDigest digest
HasTypes (op.Commit key token old_root new_root tag) = IsDigest old_root × IsDigest new_root
HasTypes (op.Cancel key token) = Unit {0}

-- an op that a step may have: it may be asked, and its fields have their types
abbrev pub IsValid : Op → Type 0
IsValid o = IsOp o × HasTypes o

-- the entry has the op's key, and its act is the op
abbrev pub Records : Entry → Op → Type 0
Records e (op.Lease key path) = (e.key ≡ key) × (e.act ≡ act.Lease path)
Records e (op.Store key token digest batch) = (e.key ≡ key) × ((fresh : List ObjectId) × (e.act ≡ act.Store token digest fresh))
Records e (op.Commit key token old_root new_root tag) = (e.key ≡ key) × (e.act ≡ act.Commit token old_root new_root tag)
Records e (op.Cancel key token) = (e.key ≡ key) × (e.act ≡ act.Cancel token)

-- the entry notes an op that may be asked, at a moment that may be
pub record IsNoted (o : Op) (e : Entry) : Type 0 where
  pub op : IsValid o
  pub now : IsMoment e.now
  pub records : Records e o

-- memory was wanted before the ids were known, or they are noted
abbrev pub SendStep : State → List ℕ → Token → List Object → List ObjectId → Reply → State → Type 0
SendStep st key token batch fresh r st' =
    ((r ≡ reply.NoMemory) × (st' ≡ st) × (fresh ≡ [])) ⊎ (FreshIs st batch r st' fresh × StoreStep st key token batch r st')

-- what an op does in a settled, aged state
abbrev pub Acts : State → Op → Entry → State → Type 0
Acts st (op.Lease key path) e st' = MayLackMemory st e.reply st' (LeaseStep st key path e.reply st')
Acts st (op.Store key token digest batch) e st' =
    (fresh : List ObjectId) × (e.act ≡ act.Store token digest fresh) × SendStep st key token batch fresh e.reply st'
Acts st (op.Commit key token old_root new_root tag) e st' = MayLackMemory st e.reply st' (CommitStep st key token old_root new_root tag e.reply st')
Acts st (op.Cancel key token) e st' = CancelStep st key token e.reply st'

-- the entry has no fresh ids
abbrev pub HasNoFresh : Act → Type 0
HasNoFresh (act.Store token digest fresh) = fresh ≡ []
HasNoFresh other = Unit {0}

-- a commit is in doubt, which couldn't be settled
pub record Waits (st : State) (e : Entry) (st' : State) : Type 0 where
  pub doubt : IsSome st.doubt
  pub fault : IsFault e.reply
  pub fresh : HasNoFresh e.act
  pub same : st' ≡ st

-- the state is settled and aged, and then the op is done
pub record Goes (st : State) (o : Op) (e : Entry) (st' : State) : Type 0 where
  pub settled : State
  pub settles : Settled st settled
  pub acts : Acts (aged settled e.now) o e st'

pub record Step (st : State) (o : Op) (e : Entry) (st' : State) : Type 0 where
  pub noted : IsNoted o e
  pub open noted use *
  pub next : st.next < last_number
  pub does : Waits st e st' ⊎ Goes st o e st'

-- the entries are steps one after another
abbrev pub Run : State → List Entry → State → Type 0
Run st [] st' = st' ≡ st
Run st (e ∷ entries) st' = (o : Op) × (next : State) × Step st o e next × Run next entries st'
