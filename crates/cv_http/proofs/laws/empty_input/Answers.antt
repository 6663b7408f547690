use Rattle.cv_http.proofs.OneReading.{empty_begun, empty_refused}
use Rattle.cv_http.proofs.laws.empty_input.Goals as goal

pub returns : goal.returns
returns c = record { begun = empty_begun; refused = empty_refused }
