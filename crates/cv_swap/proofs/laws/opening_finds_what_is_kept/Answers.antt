use Rattle.cv_swap.proofs.Reopened.{found_of}
use Rattle.cv_swap.proofs.Refusing.{stands_refuses}
use Rattle.cv_swap.proofs.laws.opening_finds_what_is_kept.Goals as goal

pub returns : goal.returns
returns c = record { found = found_of; refused = stands_refuses }
