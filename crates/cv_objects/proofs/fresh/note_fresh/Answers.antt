use Rattle.cv_objects.proofs.Noting.{notes_there}
use Rattle.cv_objects.proofs.fresh.note_fresh.Goals as goal

pub returns-then-branch-clause-walks : goal.returns-then-branch-clause-walks
returns-then-branch-clause-walks g c = λ d e. notes_there c.args.object.now c.args.ids.now.items c.args.noted.now c.stands.ensures.digest (rw c.if-branch.true at c.in_ok-stands.ensures.walks d e)
