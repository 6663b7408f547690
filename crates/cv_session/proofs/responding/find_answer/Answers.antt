use Rattle.std.proofs.Common.{sym}
use Rattle.cv_session.specs.Responses.{denied, refused}
use Rattle.cv_session.proofs.TurnsDone.{at_rest, by_repositories}
use Rattle.cv_session.proofs.responding.find_answer.Goals as goal

pub returns-in-Repositories-clause-does : goal.returns-in-Repositories-clause-does
returns-in-Repositories-clause-does g c = rw c.in-Repositories.is (by_repositories g.met.K.Desk.does_none c.name_repositories.result _ (rw (sym c.name.ensures) c.name_repositories.ensures))

pub returns-in-Deny-clause-does : goal.returns-in-Deny-clause-does
returns-in-Deny-clause-does g c = rw c.in-Deny.is (at_rest g.met.K.Desk.does_none _ (denied c.in-Deny.refusal))

pub returns-in-Refuse-clause-does : goal.returns-in-Refuse-clause-does
returns-in-Refuse-clause-does g c = rw c.in-Refuse.is (at_rest g.met.K.Desk.does_none _ (refused c.in-Refuse.code))
