use Rattle.std.proofs.Common.{rules}
use Rattle.cv_session.proofs.Payloads.{refuses}
use Rattle.cv_session.proofs.payload.finish_pack.Goals as goal

pub returns-in-Err-clause-turn : goal.returns-in-Err-clause-turn
returns-in-Err-clause-turn c = λ pack fed is.
    rw c.refuse_pack.ensures
    (refuses c.args.announced.key c.args.announced.ask pack c.args.digest c.in-Err.fault (search rules) is (c.in-Err.ensures.reads pack fed))
