use Rattle.cv_session_tests.proofs.Seating.{asks}
use Rattle.cv_session_tests.proofs.seat_desk.SeatDeskDesk.ask.Goals as goal

pub returns-clause-does : goal.returns-clause-does
returns-clause-does c =
    asks c.args.self.now.head c.args.op c.args._now c.refuse.result c.requires.op c.refuse.ensures.types c.requires.moment c.refuse.ensures.reply
