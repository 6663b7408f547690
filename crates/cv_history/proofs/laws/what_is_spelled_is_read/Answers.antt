use Rattle.cv_history.proofs.Spelling.{record_again}
use Rattle.cv_history.proofs.laws.what_is_spelled_is_read.Goals as goal

pub returns : goal.returns
returns c = record_again
