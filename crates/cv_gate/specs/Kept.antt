-- What outlives a crash, and what a crash leaves of a state.
use Rattle.std.specs.Prelude.{◌≡◌, ◌⊎◌, ℕ, ◌+◌, true, false, List, [], ◌∷◌, ◌++◌, Option, None, Some}
use Rattle.cv_base.specs.declared.id.ObjectId.{ObjectId}
use Rattle.cv_base.specs.declared.object.Object.{Object}
use Rattle.cv_base.specs.declared.token.Token.{Token}
use Rattle.cv_base.specs.Moment.{IsMoment}
use Rattle.cv_tree.specs.Tree.{Nodes}
use Rattle.cv_cut.specs.Means.{Means}
use Rattle.cv_leases.specs.Leases.{lease_of}
use Rattle.cv_leases.specs.declared.lease.Lease.{Lease}
use Rattle.cv_objects.specs.Batches.{IsGained}
use Rattle.cv_swap.specs.Kept.{Kept, Revision, newest, AreSound}
use Rattle.cv_gate.specs.State.{State, aged, Settled}
use Rattle.cv_gate.specs.Commits.{committed, made}
use Rattle.cv_gate.specs.Passing.{MakesNew}
use Rattle.cv_gate.specs.Step.{IsValid}
use Rattle.cv_gate.specs.declared.op.Op.{Op}
use Rattle.cv_gate.specs.declared.op.Op.TheVariants as op

-- ---- what is kept

-- what is kept of a state
abbrev pub kept : State → Kept
kept st = record { history = st.history; shelf = st.shelf; epoch = st.epoch }

-- the state of a gate that is opened on what is kept
abbrev pub reopened : Kept → State
reopened k = record {
  history = k.history;
  leases = [];
  doubt = None;
  shelf = k.shelf;
  loose = λ id. false;
  moment = 0;
  epoch = k.epoch + 1;
  next = 1;
}

-- ---- an op in progress

-- an op, with the moment of its call
pub record Pending : Type 0 where
  pub op : Op
  pub now : ℕ

-- in a settled state the op would make one revision more, and the history has it
pub record WouldCommit (settled : State) (p : Pending) (history : List Revision) : Type 0 where
  pub op : IsValid p.op
  pub limit : IsMoment p.now
  pub new : Revision
  pub makes : MakesNew (aged settled p.now) p.op new
  pub is : history ≡ settled.history ++ new ∷ []

abbrev pub MayCommit : State → Option Pending → List Revision → Type 0
MayCommit settled None history = ⊥
MayCommit settled (Some p) history = WouldCommit settled p history

-- the objects of an op in a settled, aged state: its batch, or what its commit makes
pub data BringsObjects (st : State) : Op → List Object → Type 0 where
  whole : {key : List ℕ} {token : Token} {digest : List ℕ} {objects : List Object} → BringsObjects st (op.Store key token digest objects) objects
  makes : {key : List ℕ} {token : Token} {old_root new_root tag : List ℕ} → (lease : Lease) (head : Revision) (offered : Nodes) → lease_of token st.leases ≡ Some lease
      → newest st.history ≡ Some head → Means st.shelf new_root offered
      → BringsObjects st (op.Commit key token old_root new_root tag) (made (committed st.moment head lease offered new_root tag))
  nothing : {o : Op} → BringsObjects st o []

abbrev pub MayBring : State → Option Pending → List Object → Type 0
MayBring settled None objects = objects ≡ []
MayBring settled (Some p) objects = BringsObjects (aged settled p.now) p.op objects

-- ---- a crash

-- what is left under an id: what stood there, or nothing where it was loose, or one of these objects where nothing stood
pub data Left (st : State) (objects : List Object) (id : ObjectId) (now : Option (List ℕ)) : Type 0 where
  stays : now ≡ st.shelf id → Left st objects id now
  goes : st.loose id ≡ true → now ≡ None → Left st objects id now
  comes : IsGained objects st.shelf id now → Left st objects id now

-- what a crash in a state may leave, with an op in progress or none
pub record Crash (st : State) (o : Option Pending) (k : Kept) : Type 0 where
  pub sound : AreSound k.shelf k.history
  pub epoch : k.epoch ≡ st.epoch
  pub settled : State
  pub settles : Settled st settled
  pub history : (k.history ≡ settled.history) ⊎ MayCommit settled o k.history
  pub objects : List Object
  pub brings : MayBring settled o objects
  pub shelf : (id : ObjectId) → Left st objects id (k.shelf id)
