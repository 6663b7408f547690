-- What no check refuses: a lease that nothing stands against, and a commit.
use Rattle.std.specs.Prelude.{◌≡◌, ℕ, ◌+◌, ◌<◌, true, false, bytes_eq, List, length, None, Some}
use Rattle.cv_base.specs.Path.{Path}
use Rattle.cv_base.specs.Marker.{marker, ends_in}
use Rattle.cv_base.specs.declared.id.ObjectId.{ObjectId}
use Rattle.cv_base.specs.declared.token.Token.{Token}
use Rattle.cv_tree.specs.Tree.{Nodes}
use Rattle.cv_tree.specs.Changes.{has_place}
use Rattle.cv_cut.specs.Catalogues.{Fits}
use Rattle.cv_cut.specs.Means.{Means}
use Rattle.cv_leases.specs.declared.limits.TheConstants.{LEASE_LIMIT}
use Rattle.cv_leases.specs.Leases.{busy, lease_of}
use Rattle.cv_leases.specs.declared.lease.Lease.{Lease}
use Rattle.cv_objects.specs.Coming.{ClashesOn}
use Rattle.cv_base.specs.declared.limits.TheConstants.{LAST_REVISION}
use Rattle.cv_swap.specs.Kept.{Revision, newest}
use Rattle.cv_gate.specs.State.{State}
use Rattle.cv_gate.specs.Commits.{is_base, IsTaken, committed, made}
use Rattle.cv_gate.specs.declared.lease_line.TheConstants.{LEASE_TIME}
use Rattle.cv_gate.specs.declared.op.Op.{Op}
use Rattle.cv_gate.specs.declared.op.Op.TheVariants as op

-- ---- a lease

-- the lease that is granted to a key on a path
abbrev pub granted : State → List ℕ → Path → Revision → Lease
granted st key p head = record {
  token = record { epoch = st.epoch; number = st.next };
  key = key;
  path = p;
  deadline = st.moment + LEASE_TIME;
  from_revision = head.record_.revision;
}

-- nothing stands against a lease on the path: it isn't a marker's, no lease overlaps it, there is room for one more, and
-- its parent is a directory of the newest tree
pub record IsFree (st : State) (p : Path) (head : Revision) : Type 0 where
  pub unmarked : ends_in marker p ≡ false
  pub clear : busy st.leases p ≡ None
  pub few : length st.leases < LEASE_LIMIT
  pub is_newest : newest st.history ≡ Some head
  pub place : has_place head.tree p ≡ true

-- ---- a commit

-- no check refuses a commit, and it makes this revision: the lease is live and the key's own; there is room for a revision
-- more; the old root is that of one since the lease was granted; the tag is free; the new root means a tree; the new tree
-- fits; and nothing else stands under the ids of the objects that it makes
pub record Passes (st : State) (key : List ℕ) (token : Token) (old_root new_root tag : List ℕ) (new : Revision) : Type 0 where
  pub lease : Lease
  pub live : lease_of token st.leases ≡ Some lease
  pub own : bytes_eq lease.key key ≡ true
  pub head : Revision
  pub is_newest : newest st.history ≡ Some head
  pub room : head.record_.revision < LAST_REVISION
  pub base : is_base st.history lease.from_revision old_root ≡ true
  pub free : (taken : Revision) → IsTaken st.history tag taken → ⊥
  pub offered : Nodes
  pub means : Means st.shelf new_root offered
  pub is : new ≡ committed st.moment head lease offered new_root tag
  pub fits : Fits new.tree
  pub apart : (id : ObjectId) → ClashesOn st.shelf (made new) id → ⊥

-- the op is a commit that passes, and makes this revision
abbrev pub MakesNew : State → Op → Revision → Type 0
MakesNew st (op.Lease key path) new = ⊥
MakesNew st (op.Store key token digest batch) new = ⊥
MakesNew st (op.Commit key token old_root new_root tag) new = Passes st key token old_root new_root tag new
MakesNew st (op.Cancel key token) new = ⊥
