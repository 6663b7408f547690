use Rattle.cv_manifest.proofs.Exact.{one_reading}
use Rattle.cv_manifest.proofs.laws.a_text_says_one_manifest.Goals as goal

pub returns : goal.returns
returns c = one_reading
