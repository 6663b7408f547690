use Rattle.cv_history.proofs.Spelling.{record_takes}
use Rattle.cv_history.proofs.laws.what_is_read_is_spelled.Goals as goal

pub returns : goal.returns
returns c = record_takes
