use Rattle.cv_session_tests.proofs.Seating.{fetches}
use Rattle.cv_session_tests.proofs.seat_desk.SeatDeskDesk.object.Goals as goal

pub returns-clause-does : goal.returns-clause-does
returns-clause-does c = fetches c.args.self.now.head c.args._id.now
