use Rattle.std.proofs.Common.{sym, ◌∙◌}
use Rattle.cv_graft.proofs.Nexts.{above_is}
use Rattle.cv_graft.proofs.way.is_above.Goals as goal

pub returns-then-covers : goal.returns-then-covers
returns-then-covers c = above_is c.args.above.now c.args.path.now c.ne.result (sym c.covers.ensures ∙ c.if-covers.true) c.ne.ensures
