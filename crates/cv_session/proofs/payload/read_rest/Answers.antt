use Rattle.cv_session.proofs.Payloads.{turn_announced}
use Rattle.cv_session.proofs.payload.read_rest.Goals as goal

pub returns-in-Ok-clause-reads : goal.returns-in-Ok-clause-reads
returns-in-Ok-clause-reads g c = λ says denies.
    turn_announced g.R.Source.left g.R.Source.given _ _ c.args.size says c.in-Ok.announced c.read_pack.result c.read_pack.ensures.reads (λ pack. rw c.in-Ok.is at (denies pack))

pub returns-in-Err-clause-reads : goal.returns-in-Err-clause-reads
returns-in-Err-clause-reads g c = λ says denies. c.pass_denied.ensures.reads says (λ pack. rw c.in-Err.is at (denies pack))
