use Rattle.std.proofs.Common.{◌∙◌, codes, sym}
use Rattle.std.proofs.lemmas.Slice.Eq.{bytes_eq-Decides}
use Rattle.cv_session.specs.Turns.{Wants, lease, commit, no_post}
use Rattle.cv_session.proofs.Asking.{made_known, made_good}
use Rattle.cv_session.proofs.Slashes.{stripped}
use Rattle.cv_session.proofs.Targeting.{not_same}
use Rattle.cv_session.proofs.find_turn.post_turn.Goals as goal

pub returns-then-eq-clause-wants : goal.returns-then-eq-clause-wants
returns-then-eq-clause-wants c =
    made_known (Wants c.args.repository.now c.args.keys.now c.args.head.now c.args.body.now) _ _
    (c.step_turn.ensures.turn _ (rw c.authorization.ensures at c.asked_lease.ensures))
    (lease c.requires (sym c.as_str-target.ensures ∙ (bytes_eq-Decides _ _).0 (sym c.if-eq.ensures)))

pub returns-then-eq-clause-good : goal.returns-then-eq-clause-good
returns-then-eq-clause-good c = made_good _ _ (c.step_turn.ensures.turn _ c.asked_lease.ensures)

pub returns-in-Some-clause-wants : goal.returns-in-Some-clause-wants
returns-in-Some-clause-wants c =
    let target = stripped (codes "/api/v1/leases/") c.as_str-target.result.now c.in-Some.token.now c.in-Some.ensures.cases in
    made_known (Wants c.args.repository.now c.args.keys.now c.args.head.now c.args.body.now) _ _
    (c.step_turn-in-Some.ensures.turn _ (rw c.authorization-in-Some.ensures at c.asked_commit.ensures))
    (commit c.in-Some.token.now c.requires (sym c.as_str-target.ensures ∙ target.0))

pub returns-in-Some-clause-good : goal.returns-in-Some-clause-good
returns-in-Some-clause-good c = made_good _ _ (c.step_turn-in-Some.ensures.turn _ c.asked_commit.ensures)

pub returns-in-None-clause-wants : goal.returns-in-None-clause-wants
returns-in-None-clause-wants c =
    no_post c.requires (λ same. not_same _ _ _ c.eq.ensures c.if-eq.false (c.as_str-target.ensures ∙ same))
    (λ text same. c.in-None.ensures.cases text (c.as_str-target.ensures ∙ same))
