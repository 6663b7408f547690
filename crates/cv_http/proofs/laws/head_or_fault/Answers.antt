use Rattle.cv_http.proofs.OneReading.{not_refused, not_cut}
use Rattle.cv_http.proofs.laws.head_or_fault.Goals as goal

pub returns : goal.returns
returns c = record { refused = not_refused; cut = not_cut }
