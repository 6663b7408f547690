use Rattle.cv_session.specs.Turns.{unknown_method}
use Rattle.cv_session.proofs.find_turn.request_turn.Goals as goal

pub returns-in-Other-clause-wants : goal.returns-in-Other-clause-wants
returns-in-Other-clause-wants c = unknown_method c.in-Other.is
