use Rattle.cv_cut.specs.Cut.{keys_at}
use Rattle.cv_cut.proofs.Seen.{HasSeen}
use Rattle.cv_cut.proofs.collision.shared_key.Given as goal

abbrev pub invariant-loop-second : goal.invariant-loop-second
invariant-loop-second l = HasSeen (keys_at l.region) l.second l.seen
