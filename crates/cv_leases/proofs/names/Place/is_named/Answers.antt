use Rattle.std.proofs.Common.{rules}
use Rattle.std.proofs.lemmas.Map.Text.{is_eq-slice_cmp}
use Rattle.cv_leases.proofs.names.Place.is_named.Goals as goal

pub returns : goal.returns
returns c = rw (is_eq-slice_cmp _ _) (search rules)
