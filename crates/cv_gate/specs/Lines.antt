-- What is told of live leases.
use Rattle.std.specs.Prelude.{ℕ, ◌-◌, List, map}
use Rattle.cv_leases.specs.Leases.{unexpired}
use Rattle.cv_leases.specs.declared.lease.Lease.{Lease}
use Rattle.cv_gate.specs.declared.lease_line.LeaseLine.{LeaseLine}

abbrev pub line_of : ℕ → Lease → LeaseLine
line_of moment lease = record { key = lease.key; path = lease.path; remaining = lease.deadline - moment }

-- the leases that are live at a moment, in the order of grant
abbrev pub lines_of : ℕ → List Lease → List LeaseLine
lines_of moment leases = map (λ lease. line_of moment lease) (unexpired moment leases)
