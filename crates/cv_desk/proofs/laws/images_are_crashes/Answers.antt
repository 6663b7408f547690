use Rattle.cv_desk.proofs.Imaging.{image_survives}
use Rattle.cv_desk.proofs.laws.images_are_crashes.Goals as goal

pub returns : goal.returns
returns c = image_survives
