use Rattle.cv_swap.proofs.Begins.{first_before, first_between, first_leaves, first_makes}
use Rattle.cv_swap.proofs.laws.a_first_revision_comes_whole.Goals as goal

pub returns : goal.returns
returns c = record { before = first_before; between = first_between; leaves = first_leaves; makes = first_makes }
