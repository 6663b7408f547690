use Rattle.cv_history.proofs.Spelling.{one_record}
use Rattle.cv_history.proofs.laws.bytes_spell_one_record.Goals as goal

pub returns : goal.returns
returns c = one_record
