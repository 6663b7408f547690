use Rattle.std.proofs.Common.{vec_len}
use Rattle.cv_load.specs.Growth.{GrowsBy}
use Rattle.cv_load.proofs.Holders.{IsPlacedFrom}
use Rattle.cv_load.proofs.placing.place_all_held.Given as goal

abbrev pub invariant-rest : goal.invariant-rest
invariant-rest l = record {
  grows : GrowsBy l.fn.catalogue.at l.fn.catalogue.rows l.fn.tree l.tree;
  placed : IsPlacedFrom l.fn.catalogue l.rest.items l.tree;
}

abbrev pub decreases-rest : goal.decreases-rest
decreases-rest l = vec_len l.rest
