-- The state of a gate, and how it ages and settles.
use Rattle.std.specs.Prelude.{◌≡◌, ℕ, max, Bool, List, [], ◌∷◌, ◌++◌, Option, None, Some}
use Rattle.cv_ports.specs.Shelf.{Shelf}
use Rattle.cv_base.specs.declared.id.ObjectId.{ObjectId}
use Rattle.cv_leases.specs.Leases.{without, unexpired}
use Rattle.cv_leases.specs.declared.lease.Lease.{Lease}
use Rattle.cv_swap.specs.Kept.{Revision}

pub record State : Type 0 where
  -- the revisions, from the first on
  pub history : List Revision
  -- the live leases, in the order in which they were granted
  pub leases : List Lease
  -- a commit of which it isn't known whether it was made
  pub doubt : Option Revision
  -- which bytes stand under each id
  pub shelf : Shelf
  -- the ids whose objects a crash may take away
  pub loose : ObjectId → Bool
  -- the latest moment at which something was asked
  pub moment : ℕ
  -- how often the repository was opened
  pub epoch : ℕ
  -- the number of the next lease
  pub next : ℕ

-- the moment has come to `now`, and leases whose deadline has come are gone
abbrev pub aged : State → ℕ → State
aged st now = record st { leases = unexpired (max st.moment now) st.leases; moment = max st.moment now }

-- the state with a revision added, whose lease ended
abbrev pub with_revision : State → Revision → State
with_revision st new = record st { history = st.history ++ new ∷ []; leases = without new.record_.token st.leases }

-- without a doubt the state itself is settled; with one, the state in which the commit wasn't made, or in which it was
pub data Settled (st settled : State) : Type 0 where
  certain : st.doubt ≡ None → settled ≡ st → Settled st settled
  unmade : (new : Revision) → st.doubt ≡ Some new → settled ≡ record st { doubt = None } → Settled st settled
  published : (new : Revision) → st.doubt ≡ Some new → settled ≡ with_revision (record st { doubt = None }) new → Settled st settled
