use Rattle.cv_session.specs.Responses.{step}
use Rattle.cv_session.proofs.TurnsDone.{at_step}
use Rattle.cv_session.proofs.responding.take_step.Goals as goal

pub returns-clause-does : goal.returns-clause-does
returns-clause-does g c = λ repository seal.
    at_step c.args.op c.now-now.result c.ask.result c.ask.ensures.does c.ask.ensures.cause (c.now-now.ensures.first, c.now-now.ensures.later) (step c.args.op c.now-now.result c.ask.result)
