use Rattle.cv_swap.proofs.Raising.{stands_while, stands_raised}
use Rattle.cv_swap.proofs.laws.opening_keeps_what_is_kept.Goals as goal

pub returns : goal.returns
returns c = record { leaves = stands_while; makes = λ name is_seal d d' k found s is o. stands_raised name is_seal d d' k found.epoch s is.epoch is.room o.gains o.sure }
