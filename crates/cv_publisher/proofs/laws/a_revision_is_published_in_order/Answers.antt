use Rattle.cv_publisher.proofs.Publishing.{publishes}
use Rattle.cv_publisher.proofs.laws.a_revision_is_published_in_order.Goals as goal

pub returns : goal.returns
returns c = publishes
