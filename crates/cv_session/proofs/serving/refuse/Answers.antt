use Rattle.std.proofs.Common.{refl}
use Rattle.cv_session.specs.ExchangesInner.{not_said}
use Rattle.cv_session.proofs.serving.refuse.Goals as goal

pub returns-in-Unsaid-clause-ends : goal.returns-in-Unsaid-clause-ends
returns-in-Unsaid-clause-ends g c = not_said c.in-Unsaid.is refl
