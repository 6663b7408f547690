use Rattle.cv_rows.proofs.Walks.{no_longer}
use Rattle.cv_rows.proofs.places.further.Goals as goal

pub returns-in_ok-unless_memory-in-Err : goal.returns-in_ok-unless_memory-in-Err
returns-in_ok-unless_memory-in-Err c = no_longer c.args.above c.args.name.now c.in-Err.fault c.in-Err.ensures c.in_ok-unless_memory-in-Err.ensures
