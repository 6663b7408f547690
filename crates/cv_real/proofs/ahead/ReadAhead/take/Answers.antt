-- the innermost directory is the one that was looked at
use Rattle.std.proofs.Common.{ap, refl, string_bytes}
use Rattle.cv_real.proofs.ReadFiles.{same_images}
use Rattle.cv_real.specs.declared.ahead.Directory.{Directory}
use Rattle.cv_real.proofs.ahead.ReadAhead.take.Goals as goal

pub returns-clause-folder : goal.returns-clause-folder
returns-clause-folder g c some =
    rw (same_images (λ (d : Directory). string_bytes d.folder) _ _ c.in_ok-last_mut.field-0.now c.take.new.self c.in_ok-last_mut.ensures.value (ap string_bytes c.take.ensures.folder), c.refill.ensures.folders)
    (c.if-not-is_at.ensures refl)
