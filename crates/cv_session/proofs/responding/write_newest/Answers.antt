use Rattle.std.proofs.Common.{◌∙◌, ap}
use Rattle.std.proofs.lemmas.Result.{err_from_is_err_and}
use Rattle.cv_manifest.specs.Manifest.{manifest, manifest_text}
use Rattle.cv_manifest.specs.declared.manifest.TheConstants.{TIME_TO_LIVE}
use Rattle.cv_session.specs.Responses.{newest, unsaid}
use Rattle.cv_session.proofs.TurnsDone.{at_newest}
use Rattle.cv_session.proofs.responding.write_newest.Goals as goal

pub returns-in_err-name-clause-does : goal.returns-in_err-name-clause-does
returns-in_err-name-clause-does g c = λ moments.
    rw (err_from_is_err_and c.from_residual.result c.from_residual.ensures.1).1
    (at_newest c.newest-head.result c.newest-head.ensures.does c.newest-head.ensures.later (unsaid _ (newest c.newest-head.result)))

pub returns-in_err-text-clause-does : goal.returns-in_err-text-clause-does
returns-in_err-text-clause-does g c = λ moments.
    rw (err_from_is_err_and c.from_residual-in_err-text.result c.from_residual-in_err-text.ensures.1).1
    (at_newest c.newest-head.result c.newest-head.ensures.does c.newest-head.ensures.later (unsaid _ (newest c.newest-head.result)))

pub returns-clause-does : goal.returns-clause-does
returns-clause-does g c = λ moments.
    rw (c.new.ensures ∙ c.in_ok-text.ensures.text
    ∙ ap (λ name. manifest_text (g.S.Signer.seal_of c.args.signer.now) (manifest name TIME_TO_LIVE c.newest-head.result)) (c.in_ok-name.ensures ∙ c.name.ensures ∙ c.newest-head.ensures.named))
    (at_newest c.newest-head.result c.newest-head.ensures.does c.newest-head.ensures.later (newest c.newest-head.result))
