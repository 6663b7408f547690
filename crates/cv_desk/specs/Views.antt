-- A gate over a disk, as contracts see it.
use Rattle.std.specs.Prelude.{ℕ, ◌+◌, max, List, [], ◌∷◌, ◌++◌}
use Rattle.std.specs.declared.option.Option.{Option}
use Rattle.cv_base.specs.Path.{Path}
use Rattle.cv_base.specs.declared.token.Token.{Token}
use Rattle.cv_leases.specs.Leases.{unexpired}
use Rattle.cv_leases.specs.declared.lease.Lease.{Lease}
use Rattle.cv_load.specs.declared.known_set.KnownSet.{KnownSet}
use Rattle.cv_swap.specs.Line.{LineView}
use Rattle.cv_gate.specs.declared.lease_line.TheConstants.{LEASE_TIME}
use Rattle.cv_gate.specs.declared.entry.Entry.{Entry}
use Rattle.cv_desk.specs.declared.waiting.Waiting.{Waiting}

-- all but the journal
pub record StateView (V S : Type 0) : Type 0 where
  pub line : LineView V S
  pub leases : List Lease
  pub moment : ℕ
  pub next : ℕ
  -- the catalogues that were found whole, with their paths
  pub known : KnownSet

-- the state, the journal, and the commit that is ready, if one is
pub record GateView (V S : Type 0) : Type 0 where
  pub state : StateView V S
  pub journal : List Entry
  pub ready : Option Waiting

-- the same over another vault
abbrev pub at_vault : {V S : Type 0} → StateView V S → V → StateView V S
at_vault s v = record s { line = record s.line { vault = v } }

-- it has come to a moment
abbrev pub aged_view : {V S : Type 0} → StateView V S → ℕ → StateView V S
aged_view s now = record s { leases = unexpired (max s.moment now) s.leases; moment = max s.moment now }

-- ---- a lease that is granted

abbrev pub next_token : {V S : Type 0} → StateView V S → Token
next_token s = record { epoch = s.line.epoch; number = s.next }

abbrev pub new_lease : {V S : Type 0} → StateView V S → List ℕ → Path → Lease
new_lease s key path = record { token = next_token s; key = key; path = path; deadline = s.moment + LEASE_TIME; from_revision = s.line.head.revision }

abbrev pub with_lease : {V S : Type 0} → StateView V S → List ℕ → Path → StateView V S
with_lease s key path = record s { leases = s.leases ++ new_lease s key path ∷ []; next = s.next + 1 }
