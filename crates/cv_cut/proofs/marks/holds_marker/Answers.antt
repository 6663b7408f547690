use Rattle.cv_cut.proofs.Markers.{no_marker}
use Rattle.cv_cut.proofs.marks.holds_marker.Goals as goal

pub returns-in_ok-unless_memory-in-Err : goal.returns-in_ok-unless_memory-in-Err
returns-in_ok-unless_memory-in-Err c = no_marker c.args.tree.now c.args.path.now c.in-Err.fault c.requires c.in-Err.ensures c.in_ok-unless_memory-in-Err.ensures
