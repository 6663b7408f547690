use Rattle.std.proofs.Common.{◌∙◌, ap}
use Rattle.cv_base.specs.Target.{is_target}
use Rattle.cv_base.proofs.Laws.{no_target}
use Rattle.cv_cut.proofs.RowFacts.{name_target}
use Rattle.cv_cut.proofs.rows.name.Goals as goal

pub as_target-requires : goal.as_target-requires
as_target-requires c = no_target

pub as_target-requires-2 : goal.as_target-requires-2
as_target-requires-2 c = ap is_target c.last_name.ensures ∙ name_target c.args.path.now c.names.ensures.limits.names
