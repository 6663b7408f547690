use Rattle.cv_rows.proofs.Lemmas.{lacks_is}
use Rattle.cv_rows_tests.proofs.parts.lacks.Goals as goal

pub returns : goal.returns
returns c = lacks_is c.args.catalogue.now.rows c.args.row.now c.find.result c.is_none.result c.is_none.ensures c.find.ensures
