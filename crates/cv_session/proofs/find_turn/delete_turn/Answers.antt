use Rattle.std.proofs.Common.{◌∙◌, codes, sym}
use Rattle.cv_session.specs.Turns.{Wants, end, no_delete}
use Rattle.cv_session.proofs.Asking.{made_known, made_good}
use Rattle.cv_session.proofs.Slashes.{stripped}
use Rattle.cv_session.proofs.find_turn.delete_turn.Goals as goal

pub returns-in-None-clause-wants : goal.returns-in-None-clause-wants
returns-in-None-clause-wants c = λ repository body.
    no_delete c.requires (λ text same. c.in-None.ensures.cases text (c.as_str.ensures ∙ same))

pub returns-in-Some-clause-wants : goal.returns-in-Some-clause-wants
returns-in-Some-clause-wants c = λ repository body.
    let target = stripped (codes "/api/v1/leases/") c.as_str.result.now c.in-Some.token.now c.in-Some.ensures.cases in
    made_known (Wants repository c.args.keys.now c.args.head.now body) _ _
    (c.step_turn.ensures.turn _ (rw c.authorization.ensures at c.asked_end.ensures))
    (end c.in-Some.token.now c.requires (sym c.as_str.ensures ∙ target.0))

pub returns-in-Some-clause-good : goal.returns-in-Some-clause-good
returns-in-Some-clause-good c = made_good _ _ (c.step_turn.ensures.turn _ c.asked_end.ensures)
