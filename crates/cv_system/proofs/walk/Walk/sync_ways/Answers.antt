use Rattle.std.proofs.Common.{◌∙◌, Err, ap, inl, inr, refl}
use Rattle.std.proofs.lemmas.Result.{err_from_is_err_and}
use Rattle.cv_system.specs.Ways.{SyncsAllWays}
use Rattle.cv_system.proofs.walk.Walk.sync_ways.Goals as goal

pub returns-in_err-begin : goal.returns-in_err-begin
unfolding SyncsAllWays
returns-in_err-begin g c =
    let p = err_from_is_err_and c.from_residual.result c.from_residual.ensures.1 in
    rw p.1 (inl (c.in_err-begin.ensures.long, ap Err (p.2 ∙ c.in_err-begin.ensures.ends), refl))

pub returns-in_default : goal.returns-in_default
unfolding SyncsAllWays
returns-in_default g c = inr (inl (refl, _, rw (c.as_str-folder.ensures.path ∙ c.in_ok-begin.ensures.folder) at c.in_default.ensures.call))

pub returns : goal.returns
unfolding SyncsAllWays
returns g c = inr (inr (rw (c.in-Ok.ensures.call, c.as_str-folder.ensures.path ∙ c.in_ok-begin.ensures.folder) at c.sync_named.ensures))
