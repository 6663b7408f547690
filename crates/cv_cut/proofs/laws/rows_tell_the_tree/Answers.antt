use Rattle.cv_cut.proofs.Told.{row_tells, row_tells_cut, no_row_tells}
use Rattle.cv_cut.proofs.laws.rows_tell_the_tree.Goals as goal

pub returns-clause-node : goal.returns-clause-node
returns-clause-node c = row_tells

pub returns-clause-cut : goal.returns-clause-cut
returns-clause-cut c = row_tells_cut

pub returns-clause-nothing : goal.returns-clause-nothing
returns-clause-nothing c = no_row_tells
