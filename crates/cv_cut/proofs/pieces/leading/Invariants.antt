use Rattle.cv_cut.specs.PieceInner.{HasNoFiles}
use Rattle.cv_cut.proofs.pieces.leading.Given as goal

abbrev pub invariant-loop-name : goal.invariant-loop-name
invariant-loop-name l = HasNoFiles l.tree
