-- Leases in the order in which they were granted.
use Rattle.std.specs.Prelude.{◌≤◌, ◌≡◌, ◌&&◌, ◌==◌, nat_le, nat_lt, not, false, ℕ, Bool, List, length, Option, None, Some, AllPairs, if◌then◌else◌}
use Rattle.std.specs.List.{filter, find, last_or, AllByRecursion}
use Rattle.cv_base.specs.Path.{Path, overlap}
use Rattle.cv_base.specs.Marker.{marker, ends_in}
use Rattle.cv_base.specs.declared.token.Token.{Token}
use Rattle.cv_leases.specs.declared.limits.TheConstants.{LEASE_LIMIT}
use Rattle.cv_leases.specs.declared.lease.Lease.{Lease}
use Rattle.cv_leases.specs.declared.lease_fault.LeaseFault.{LeaseFault}
use Rattle.cv_leases.specs.declared.lease_fault.LeaseFault.TheVariants.{BadPath, PathBusy, TooManyLeases}

abbrev pub same_token : Token → Token → Bool
same_token a b = (a.epoch == b.epoch) && (a.number == b.number)

-- the lease with this token
abbrev pub lease_of : Token → List Lease → Option Lease
lease_of token leases = find (λ lease. same_token lease.token token) leases

-- all but the lease with this token
abbrev pub without : Token → List Lease → List Lease
without token leases = filter (λ lease. not (same_token lease.token token)) leases

-- the leases whose deadline is still to come
abbrev pub unexpired : ℕ → List Lease → List Lease
unexpired moment leases = filter (λ lease. nat_lt moment lease.deadline) leases

-- of the leases that overlap the path, the one granted last
abbrev pub busy : List Lease → Path → Option Lease
busy leases path = last_or None (filter (λ lease. overlap lease.path path) leases)

-- why a lease isn't granted where this one is in its way, or none is and these are live, if it isn't
abbrev pub refusal_beside : Option Lease → List Lease → Option LeaseFault
refusal_beside (Some lease) leases = Some (PathBusy lease.token lease.deadline)
refusal_beside None leases = if nat_le LEASE_LIMIT (length leases) then Some TooManyLeases else None

-- why a lease on this path isn't granted beside these leases, if it isn't
abbrev pub refusal : List Lease → Path → Option LeaseFault
refusal leases path = if ends_in marker path then Some BadPath else refusal_beside (busy leases path) leases

-- ---- what holds of the leases of a table, in the order of grant

-- no two overlap
abbrev pub AreApart : List Lease → Type 0
AreApart leases = AllPairs (λ a b. overlap a.path b.path ≡ false) leases

-- no two have one token
abbrev pub TokensDiffer : List Lease → Type 0
TokensDiffer leases = AllPairs (λ a b. same_token a.token b.token ≡ false) leases

-- none ends before one that was granted earlier
abbrev pub DeadlinesRise : List Lease → Type 0
DeadlinesRise leases = AllPairs (λ a b. a.deadline ≤ b.deadline) leases

-- what holds of a table at any time
pub record IsTable (leases : List Lease) : Type 0 where
  pub apart : AreApart leases
  pub tokens : TokensDiffer leases
  pub deadlines : DeadlinesRise leases
  pub paths : AllByRecursion (λ lease. ends_in marker lease.path ≡ false) leases
  pub count : length leases ≤ LEASE_LIMIT
