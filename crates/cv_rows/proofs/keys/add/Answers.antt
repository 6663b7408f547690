use Rattle.cv_base.proofs.Laws.{contains-more}
use Rattle.cv_rows.proofs.keys.add.Goals as goal

pub returns-clause-added : goal.returns-clause-added
returns-clause-added c = λ k. contains-more _ _ c.args.key c.in_ok-insert.ensures.updates k
