use Rattle.cv_swap.proofs.Names.{head_not_data}
use Rattle.cv_swap.proofs.publishing.swap_on.Goals as goal

pub returns-clause-walks : goal.returns-clause-walks
returns-clause-walks g c = λ d e manifest waits. c.move_in.ensures.walks d e manifest waits

pub move_in-requires-clause-plain : goal.move_in-requires-clause-plain
move_in-requires-clause-plain g c = head_not_data
