use Rattle.cv_cut.proofs.Canonical.{cat_is}
use Rattle.cv_cut.proofs.laws.catalogues_are_their_regions.Goals as goal

pub returns : goal.returns
returns c = cat_is
