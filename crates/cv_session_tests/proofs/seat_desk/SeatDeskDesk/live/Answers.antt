use Rattle.cv_session_tests.proofs.Seating.{lists}
use Rattle.cv_session_tests.proofs.seat_desk.SeatDeskDesk.live.Goals as goal

pub returns-clause-does : goal.returns-clause-does
returns-clause-does c = lists c.args.self.now.head c.args._now _ c.new.ensures.items
