use Rattle.cv_objects.proofs.Meaning.{adds_batch}
use Rattle.cv_objects.proofs.laws.stores_add_the_batch.Goals as goal

pub returns : goal.returns
returns c = adds_batch
