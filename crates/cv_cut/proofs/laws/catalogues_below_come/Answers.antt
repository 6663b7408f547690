use Rattle.cv_cut.proofs.Canonical.{cat-put_below}
use Rattle.cv_cut.proofs.laws.catalogues_below_come.Goals as goal

pub returns : goal.returns
returns c = cat-put_below
