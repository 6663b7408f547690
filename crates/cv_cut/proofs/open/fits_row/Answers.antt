use Rattle.cv_cut.proofs.Opening.{fits_root}
use Rattle.cv_cut.proofs.open.fits_row.Goals as goal

pub returns : goal.returns
returns c = fits_root c.args.catalogue.now c.root.result.now c.args.transition.now c.same_fields.result c.requires c.root.ensures c.same_fields.ensures
