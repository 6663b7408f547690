use Rattle.std.proofs.Common.{◌∙◌, ap, sym}
use Rattle.cv_real.proofs.ReadFiles.{same_images}
use Rattle.cv_real.specs.declared.ahead.FileAhead.{FileAhead}
use Rattle.cv_real.proofs.ahead.read_each.Goals as goal
use Rattle.cv_real.proofs.ahead.read_each.Goals.{in-Some+in-Some-1, in-Some+in-None-1, in_default}

pub loop-file-preserved : goal.loop-file-preserved
loop-file-preserved c =
    let name = λ (file : FileAhead). file.name in
    let same = ap name (sym c.file-item.is) in
    elim c.match-take.branch [
      | in-Some+in-Some-1 w ↦ rw w.file-items-is (same_images name _ _ c.file-item.result _ c.file-item.is same ∙ c.loop-file.invariant)
      | in-Some+in-None-1 w ↦ rw w.file-items-is (same_images name _ _ c.file-item.result _ c.file-item.is same ∙ c.loop-file.invariant)
      | in_default w ↦ rw w.file-items-is (same_images name _ _ c.file-item.result _ c.file-item.is same ∙ c.loop-file.invariant)
    ]
