use Rattle.std.proofs.Common.{ap, string_bytes}
use Rattle.cv_real.proofs.ReadFiles.{same_images}
use Rattle.cv_real.specs.declared.ahead.Directory.{Directory}
use Rattle.cv_real.proofs.ahead.ReadAhead.keep.Goals as goal

pub returns-in-Some-clause-folders : goal.returns-in-Some-clause-folders
returns-in-Some-clause-folders g c =
    same_images (λ (d : Directory). string_bytes d.folder) _ _ c.in-Some.directory.now _ c.in-Some.ensures.value (ap string_bytes c.keep.ensures)
