use Rattle.std.proofs.Common.{◌≡◌, map, take}
use Rattle.cv_resolver.proofs.target.texts.Given as goal

abbrev pub invariant-loop-piece : goal.invariant-loop-piece
invariant-loop-piece l = l.texts.items ≡ map (λ piece. piece.now) (take l.piece-index l.pieces)
