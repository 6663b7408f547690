use Rattle.cv_swap.proofs.OnShelf.{on_shelf}
use Rattle.cv_swap.proofs.laws.heads_are_on_the_shelf.Goals as goal

pub returns : goal.returns
returns c = on_shelf
