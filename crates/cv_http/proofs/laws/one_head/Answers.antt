use Rattle.cv_http.proofs.OneReading.{one_head}
use Rattle.cv_http.proofs.laws.one_head.Goals as goal

pub returns : goal.returns
returns c = one_head
