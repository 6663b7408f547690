use Rattle.cv_system.specs.Steps.{Still}
use Rattle.cv_system.proofs.Failing.{look_for_folder_fails}
use Rattle.cv_system.proofs.Stepping.{looks_for_folder}
use Rattle.cv_system.proofs.looks.leads_on.Goals as goal

pub returns-in-Some-clause-looks : goal.returns-in-Some-clause-looks
returns-in-Some-clause-looks g c = looks_for_folder _ _ _ _ c.is_folder.ensures

pub returns-in-None-clause-looks : goal.returns-in-None-clause-looks
returns-in-None-clause-looks g c = Still

pub returns-in-Some-clause-fails : goal.returns-in-Some-clause-fails
returns-in-Some-clause-fails g c = look_for_folder_fails _ c.is_folder.result _ _ c.is_folder.ensures
