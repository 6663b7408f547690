use Rattle.cv_system.proofs.Passing.{entry_so, no_entry}
use Rattle.cv_system.proofs.looks.seen_entry.Goals as goal

pub returns-in-Ok : goal.returns-in-Ok
returns-in-Ok g c = entry_so _ _ _ _ c.in-Ok.ensures

pub returns-in-Err : goal.returns-in-Err
returns-in-Err g c = no_entry _ _ _ c.in-Err.error (c.hides_no_name.ensures.0 c.if-hides_no_name.true) c.in-Err.ensures
