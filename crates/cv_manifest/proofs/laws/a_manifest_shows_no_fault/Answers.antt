use Rattle.cv_manifest.proofs.Exact.{no_fault}
use Rattle.cv_manifest.proofs.laws.a_manifest_shows_no_fault.Goals as goal

pub returns : goal.returns
returns c = λ is_seal text m fault says shows. no_fault is_seal text m says fault shows
