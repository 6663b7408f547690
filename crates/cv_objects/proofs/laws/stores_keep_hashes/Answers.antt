use Rattle.cv_objects.proofs.Meaning.{keep_hashes}
use Rattle.cv_objects.proofs.laws.stores_keep_hashes.Goals as goal

pub returns : goal.returns
returns c = keep_hashes
