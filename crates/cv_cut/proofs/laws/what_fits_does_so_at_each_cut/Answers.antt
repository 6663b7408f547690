use Rattle.cv_cut.proofs.CanonicalRules.{fits_at_cut}
use Rattle.cv_cut.proofs.laws.what_fits_does_so_at_each_cut.Goals as goal

pub returns : goal.returns
returns c = fits_at_cut
