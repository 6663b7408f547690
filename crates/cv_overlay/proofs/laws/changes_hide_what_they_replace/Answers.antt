use Rattle.cv_overlay.proofs.Over.{hidden_below, hides_all, hides_removed, hides_replaced}
use Rattle.cv_overlay.proofs.laws.changes_hide_what_they_replace.Goals as goal

pub returns-clause-opaque : goal.returns-clause-opaque
returns-clause-opaque c = λ changes p name names is. hidden_below changes p name names (hides_all changes p name is)

pub returns-clause-whited_out : goal.returns-clause-whited_out
returns-clause-whited_out c = λ changes p name names is. hidden_below changes p name names (hides_removed changes p name is)

pub returns-clause-replaced : goal.returns-clause-replaced
returns-clause-replaced c = λ changes p name names is. hidden_below changes p name names (hides_replaced changes p name is)
