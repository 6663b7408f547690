use Rattle.cv_swap.proofs.Prepared.{objects_added, prepare_leaves, prepare_makes, stands_grown, settled_stands}
use Rattle.cv_swap.proofs.laws.preparing_keeps_what_is_kept.Goals as goal

pub returns : goal.returns
returns c = record { adds = objects_added; leaves = prepare_leaves; makes = prepare_makes; now = stands_grown; settled = settled_stands }
