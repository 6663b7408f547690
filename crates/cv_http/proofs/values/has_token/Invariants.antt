use Rattle.std.proofs.Common.{◌≡◌, length}
use Rattle.cv_http.specs.Fields.{has_token}
use Rattle.cv_http.proofs.values.has_token.Given as goal

abbrev pub invariant-elements : goal.invariant-elements
invariant-elements l = has_token l.token l.value ≡ has_token l.token l.rest

abbrev pub decreases-elements : goal.decreases-elements
decreases-elements l = length l.rest
