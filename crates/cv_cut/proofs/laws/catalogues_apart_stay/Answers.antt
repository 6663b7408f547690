use Rattle.cv_cut.proofs.Canonical.{cat-put_apart}
use Rattle.cv_cut.proofs.laws.catalogues_apart_stay.Goals as goal

pub returns : goal.returns
returns c = cat-put_apart
