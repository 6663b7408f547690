-- Targets of the gateway's interface.
use Rattle.std.specs.Prelude.{ℕ, List, ◌++◌, codes}

-- the target of the leases
abbrev pub leases_target : List ℕ
leases_target = codes "/api/v1/leases"

-- the target of a lease, by the text of its token
abbrev pub lease_target : List ℕ → List ℕ
lease_target token = codes "/api/v1/leases/" ++ token

-- the target of payloads
abbrev pub payloads_target : List ℕ
payloads_target = codes "/api/v1/payloads"
