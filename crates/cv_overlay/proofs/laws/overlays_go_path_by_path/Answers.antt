use Rattle.std.proofs.Common.{[], ◌∷◌, ◌∙◌}
use Rattle.cv_overlay.proofs.Over.{get-over, at_named, at_hidden, at_kept}
use Rattle.cv_overlay.proofs.laws.overlays_go_path_by_path.Goals as goal

pub returns-clause-at : goal.returns-clause-at
returns-clause-at c = get-over

pub returns-clause-root : goal.returns-clause-root
returns-clause-root c = λ base changes now. get-over base changes now []

pub returns-clause-named : goal.returns-clause-named
returns-clause-named c = λ base changes now name names n is. get-over base changes now (name ∷ names) ∙ at_named base changes now name names n is

pub returns-clause-hidden : goal.returns-clause-hidden
returns-clause-hidden c = λ base changes now name names none is. get-over base changes now (name ∷ names) ∙ at_hidden base changes now name names none is

pub returns-clause-kept : goal.returns-clause-kept
returns-clause-kept c = λ base changes now name names none is. get-over base changes now (name ∷ names) ∙ at_kept base changes now name names none is
