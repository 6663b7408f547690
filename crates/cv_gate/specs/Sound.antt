-- What holds of a state at any time.
use Rattle.std.specs.Prelude.{◌≡◌, ℕ, ◌+◌, ◌<◌, ◌≤◌, ◌^◌, true, false, List, None, IfSome, IsSome, if◌then◌else◌}
use Rattle.std.specs.List.{AllByRecursion, Contains}
use Rattle.cv_base.specs.Path.{Path, IsPath}
use Rattle.cv_base.specs.declared.id.ObjectId.{ObjectId}
use Rattle.cv_base.specs.Moment.{IsMoment}
use Rattle.cv_ports.specs.Shelf.{Shelf}
use Rattle.cv_tree.specs.Tree.{at}
use Rattle.cv_tree.specs.Changes.{has_place}
use Rattle.cv_leases.specs.Leases.{IsTable}
use Rattle.cv_leases.specs.declared.lease.Lease.{Lease}
use Rattle.cv_swap.specs.Kept.{Revision, newest, IsLine, AreSound}
use Rattle.cv_objects.specs.Coming.{HasAll}
use Rattle.cv_gate.specs.State.{State}
use Rattle.cv_gate.specs.Commits.{made}
use Rattle.cv_gate.specs.declared.lease_line.TheConstants.{LEASE_TIME}
use Rattle.cv_gate.specs.Passing.{Passes}
use Rattle.cv_gate.specs.Step.{is_key_id, IsValid}
use Rattle.cv_gate.specs.declared.op.Op.TheVariants as op

-- what is on the shelf for sure
abbrev pub sure : State → Shelf
sure st id = if st.loose id then None else st.shelf id

-- ---- the leases

-- the token is one that was given out, and the lease ends in its time
pub record IsGranted (st : State) (lease : Lease) : Type 0 where
  pub epoch : lease.token.epoch ≡ st.epoch
  pub number : lease.token.number < st.next
  pub deadline : lease.deadline ≤ st.moment + LEASE_TIME

-- what a record needs of it
pub record IsHeld (lease : Lease) : Type 0 where
  pub key : is_key_id lease.key ≡ true
  pub path : IsPath lease.path

-- no two overlap, tokens differ, deadlines don't fall; and each was granted so
pub record AreLeases (st : State) : Type 0 where
  pub table : IsTable st.leases
  pub granted : AllByRecursion (IsGranted st) st.leases

-- each revision from a number on has the same at a path
abbrev pub AreAlikeFrom : ℕ → Path → List Revision → Type 0
AreAlikeFrom from p history = (r s : Revision) → Contains history r → Contains history s → from ≤ r.record_.revision → from ≤ s.record_.revision → at r.tree p ≡ at s.tree p

-- the lease's path is the root or stands in a directory of the newest tree, and what it covers is as it was when it was granted
pub record IsUndisturbed (history : List Revision) (lease : Lease) : Type 0 where
  pub place : IfSome (newest history) (λ head. has_place head.tree lease.path ≡ true)
  pub from_revision : (r : Revision) × Contains history r × (r.record_.revision ≡ lease.from_revision)
  pub alike : AreAlikeFrom lease.from_revision lease.path history

-- ---- a commit

-- a commit is in doubt: with some old root it may be asked, and passes, its objects are on the shelf, and nothing is loose
pub record IsDoubt (st : State) (new : Revision) : Type 0 where
  pub old_root : List ℕ
  pub op : IsValid (op.Commit new.record_.key new.record_.token old_root new.record_.offered new.record_.tag)
  pub passes : Passes st new.record_.key new.record_.token old_root new.record_.offered new.record_.tag new
  pub objects : HasAll (made new) st.shelf
  pub all_sure : (id : ObjectId) → st.loose id ≡ false

-- ---- all of it

pub record Sound (st : State) : Type 0 where
  pub kept : AreSound st.shelf st.history
  pub open kept use *
  pub sure_line : IsLine (sure st) st.history
  pub loose : (id : ObjectId) → st.loose id ≡ true → IsSome (st.shelf id)
  pub moment : IsMoment st.moment
  pub epoch : st.epoch < 2 ^ 64
  pub next : st.next < 2 ^ 64
  pub leases : AreLeases st
  pub held : AllByRecursion IsHeld st.leases
  pub undisturbed : AllByRecursion (IsUndisturbed st.history) st.leases
  pub doubt : IfSome st.doubt (IsDoubt st)
