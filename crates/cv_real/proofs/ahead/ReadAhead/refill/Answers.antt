use Rattle.std.proofs.Common.{◌∙◌}
use Rattle.cv_real.proofs.ReadFiles.{same_folders}
use Rattle.cv_real.proofs.ahead.ReadAhead.refill.Goals as goal

pub returns-in-Some-clause-folders : goal.returns-in-Some-clause-folders
returns-in-Some-clause-folders g c = same_folders _ _ c.start_next.ensures.held ∙ c.keep.ensures.folders ∙ same_folders _ _ c.start_all.ensures.held

pub returns-in_default-clause-folders : goal.returns-in_default-clause-folders
returns-in_default-clause-folders g c = same_folders _ _ c.start_all.ensures.held
