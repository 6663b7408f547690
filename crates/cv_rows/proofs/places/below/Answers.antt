use Rattle.std.proofs.Common.{subst}
use Rattle.std.specs.Prelude.{IfOk}
use Rattle.cv_base.specs.Path.{Path}
use Rattle.cv_rows.specs.Parents.{IsBelow}
use Rattle.cv_rows.proofs.places.below.Goals as goal

pub returns : goal.returns
returns c = subst (λ (p : Path). IfOk c.further.result (IsBelow p c.args.name.now)) c.in_ok-copy.ensures c.further.ensures
