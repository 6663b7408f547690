use Rattle.cv_session.proofs.Payloads.{turn_denied}
use Rattle.cv_session.proofs.payload.pass_denied.Goals as goal

pub returns-in_ok-pass_over-in-Refused-clause-reads : goal.returns-in_ok-pass_over-in-Refused-clause-reads
returns-in_ok-pass_over-in-Refused-clause-reads g c = λ says denies.
    turn_denied g.R.Source.left g.R.Source.given _ _ c.args.size says c.in-Refused.refusal (λ body made. Unit {0}) _ c.in_ok-pass_over-in-Refused.ensures.reads (λ pack. rw c.in-Refused.is at (denies pack))
