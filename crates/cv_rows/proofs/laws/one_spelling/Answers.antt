use Rattle.cv_rows.proofs.FileLaws.{one_file}
use Rattle.cv_rows.proofs.RuleLaws.{has_file}
use Rattle.cv_rows.proofs.laws.one_spelling.Goals as goal

pub returns : goal.returns
returns c = λ a b is was same. one_file a.rows b.rows a.nested b.nested (has_file a is) (has_file b was) same
