use Rattle.cv_session_tests.proofs.Seating.{tells}
use Rattle.cv_session_tests.proofs.seat_desk.SeatDeskDesk.newest.Goals as goal

pub returns-clause-does : goal.returns-clause-does
returns-clause-does c = tells c.args.self.now.head
