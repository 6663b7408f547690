use Rattle.cv_system.proofs.Places.{never_next, one_name}
use Rattle.cv_system.proofs.names.names_stand_apart.Goals as goal

pub returns-clause-names : goal.returns-clause-names
returns-clause-names c = λ root one other named named' same. one_name root one other named named' same

pub returns-clause-next : goal.returns-clause-next
returns-clause-next c = λ root name named. never_next root name named
