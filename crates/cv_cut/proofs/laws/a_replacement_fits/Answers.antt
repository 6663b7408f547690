use Rattle.cv_cut.proofs.Fitting.{fits_after}
use Rattle.cv_cut.proofs.laws.a_replacement_fits.Goals as goal

pub returns : goal.returns
returns _ = fits_after
