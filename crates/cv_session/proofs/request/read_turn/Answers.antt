use Rattle.std.proofs.Common.{rules}
use Rattle.cv_session.proofs.Readings.{turn_of_payload, turn_of_other}
use Rattle.cv_session.proofs.request.read_turn.Goals as goal

pub returns-then-is_payload-clause-reads : goal.returns-then-is_payload-clause-reads
returns-then-is_payload-clause-reads g c =
    turn_of_payload g.R.Source.left g.R.Source.given c.args.repository.now c.args.keys.now _ _ c.args.head.now c.read_payload.result (search (rules, c.is_payload.ensures)) (rw c.body_size-size.ensures at c.read_payload.ensures.reads)

pub returns-clause-reads : goal.returns-clause-reads
returns-clause-reads g c =
    turn_of_other g.R.Source.left g.R.Source.given c.args.repository.now c.args.keys.now _ _ c.args.head.now c.in_ok-body.body _ (search (rules, c.is_payload.ensures)) (rw c.body_size-size.ensures at c.in_ok-body.ensures.draws)
    (rw c.as_slice.ensures at c.in_ok-request_turn.ensures.wants) c.in_ok-request_turn.ensures.good
