use Rattle.std.proofs.Common.{◌∙◌, ap}
use Rattle.std.specs.declared.option.Option.TheVariants.{Some, None}
use Rattle.std.proofs.lemmas.Result.{err_from_is_err_and}
use Rattle.cv_session.specs.Answers.{leases_answer}
use Rattle.cv_session.specs.Responses.{leases, unlisted}
use Rattle.cv_session.proofs.TurnsDone.{at_list}
use Rattle.cv_session.proofs.responding.show_leases.Goals as goal

pub returns-in_err-lines-clause-does : goal.returns-in_err-lines-clause-does
returns-in_err-lines-clause-does g c = λ seal.
    rw (err_from_is_err_and c.from_residual.result c.from_residual.ensures.1).1
    (at_list c.now.result None c.in_err-lines.ensures.does c.live.ensures.later (c.now.ensures.first, c.now.ensures.later) (unlisted c.now.result None))

pub returns-in_err-list_leases-clause-does : goal.returns-in_err-list_leases-clause-does
returns-in_err-list_leases-clause-does g c = λ seal.
    rw (err_from_is_err_and c.from_residual-in_err-list_leases.result c.from_residual-in_err-list_leases.ensures.1).1
    (at_list c.now.result (Some c.in_ok-lines.lines.items) c.in_ok-lines.ensures.does c.live.ensures.later (c.now.ensures.first, c.now.ensures.later) (unlisted c.now.result _))

pub returns-clause-does : goal.returns-clause-does
returns-clause-does g c = λ seal.
    rw (c.in_ok-list_leases.ensures ∙ ap (leases_answer c.name.result.now) c.as_slice.ensures.value
    ∙ ap (λ name. leases_answer name c.in_ok-lines.lines.items) (c.name.ensures ∙ c.live.ensures.named))
    (at_list c.now.result (Some c.in_ok-lines.lines.items) c.in_ok-lines.ensures.does c.live.ensures.later (c.now.ensures.first, c.now.ensures.later) (leases c.now.result c.in_ok-lines.lines.items))
