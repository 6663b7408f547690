use Rattle.cv_manifest.proofs.Clear.{name_utf8}
use Rattle.cv_manifest.proofs.values.read_name.Goals as goal

pub returns-in-Err : goal.returns-in-Err
returns-in-Err c = λ is. c.in-Err.ensures.cases.0 (name_utf8 c.args.bytes.now is)
