use Rattle.cv_http.proofs.OneReading.{one_refusal, refused_in_target}
use Rattle.cv_http.proofs.laws.one_fault.Goals as goal

pub returns : goal.returns
returns c = record { refused = one_refusal; cut = refused_in_target }
