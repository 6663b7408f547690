use Rattle.cv_graft.proofs.PlacedMeans.{placed_means}
use Rattle.cv_graft.proofs.laws.a_placed_part_means_its_tree.Goals as goal

pub returns : goal.returns
returns c = placed_means
