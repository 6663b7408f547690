use Rattle.std.proofs.Common.{◌∙◌, ap, sym}
use Rattle.cv_real.proofs.ReadFiles.{same_images}
use Rattle.cv_real.specs.declared.ahead.FileAhead.{FileAhead}
use Rattle.cv_real.proofs.ahead.open_each.Goals as goal

pub loop-file-preserved : goal.loop-file-preserved
loop-file-preserved g c = same_images (λ (file : FileAhead). file.name) _ _ c.file-item.result _ c.file-item.is (ap (λ (file : FileAhead). file.name) (sym c.file-item.is)) ∙ c.loop-file.invariant
