use Rattle.std.proofs.Common.{◌∙◌, List, subst}
use Rattle.cv_base.specs.Path.{Path}
use Rattle.cv_cut.specs.CutInner.{HasMade}
use Rattle.cv_cut.specs.Piece.{IsFullAmong}
use Rattle.cv_cut.specs.PieceInner.{IsFaultAmong}
use Rattle.cv_cut.proofs.Collisions.{handed_on}
use Rattle.cv_cut.proofs.PieceLaws.{made_below, only_full}
use Rattle.cv_cut.proofs.Standing.{within_stands}
use Rattle.cv_cut.proofs.pieces.cut_piece.Goals as goal

pub returns-in_err-objects-clause-fault : goal.returns-in_err-objects-clause-fault
returns-in_err-objects-clause-fault c =
    handed_on (IsFullAmong c.args.piece.now.tree c.args.piece.now.cuts) _ _ c.from_residual.ensures.1
    (only_full c.args.piece.now c.in_err-objects.field-0.0 c.requires (subst (λ (ds : List Path). IsFaultAmong c.args.piece.now.tree ds c.in_err-objects.field-0.0) c.as_slice.ensures c.in_err-objects.ensures.fault))

pub nested-requires-clause-made : goal.nested-requires-clause-made
nested-requires-clause-made c =
    made_below c.args.piece.now c.root-root.result c.catalogues.new.made c.requires c.root-root.ensures (subst (λ (ds : List Path). HasMade c.args.piece.now.tree ds c.catalogues.new.made) c.as_slice.ensures c.in_ok-objects.ensures.made)

pub rows-requires-clause-nodes : goal.rows-requires-clause-nodes
rows-requires-clause-nodes c = within_stands c.args.piece.now.tree c.requires.path _ (c.as_slice-region.ensures ∙ c.requires.is.region_is)

pub nested-requires-clause-nodes : goal.nested-requires-clause-nodes
nested-requires-clause-nodes c = within_stands c.args.piece.now.tree c.requires.path _ (c.as_slice-region.ensures ∙ c.requires.is.region_is)
