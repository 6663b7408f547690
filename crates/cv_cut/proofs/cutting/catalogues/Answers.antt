use Rattle.cv_cut.specs.PieceInner.{IsFaultAmong}
use Rattle.cv_cut.proofs.Collisions.{handed_on, wider_fault}
use Rattle.cv_cut.proofs.CutLaws.{cut_there, below_made, next_made}
use Rattle.cv_cut.proofs.cutting.catalogues.Goals as goal

pub catalogue-requires-clause-cut : goal.catalogue-requires-clause-cut
catalogue-requires-clause-cut c = cut_there c.args.tree.now c.requires.cuts.path c.args.cuts.now c.loop-cut.cut-index _ c.requires.cuts.is c.loop-cut-test.true c.cut-item.is

pub loop-cut-preserved : goal.loop-cut-preserved
loop-cut-preserved c =
    next_made _ c.requires.cuts.path _ _ _ _ _ _ _ _ c.loop-cut.invariant c.requires.cuts.is c.loop-cut-test.true c.cut-item.is c.in_ok-bytes.ensures.bytes c.in_ok-bytes.ensures.apart c.in_ok-bytes.ensures.fits c.in_ok-keep.ensures.made c.in_ok-keep.ensures.objects

pub catalogue-requires-clause-made : goal.catalogue-requires-clause-made
catalogue-requires-clause-made c = below_made c.args.tree.now c.requires.cuts.path c.args.cuts.now c.loop-cut.cut-index _ _ c.requires.cuts.is c.loop-cut-test.true c.cut-item.is c.loop-cut.invariant.made_

pub returns-in_err-bytes-clause-fault : goal.returns-in_err-bytes-clause-fault
returns-in_err-bytes-clause-fault c =
    handed_on (IsFaultAmong c.args.tree.now c.args.cuts.now) _ _ c.from_residual-in_err-bytes.ensures.1
    (wider_fault c.args.tree.now c.args.cuts.now c.loop-cut.cut-index _ _ c.loop-cut-test.true c.cut-item.is c.in_err-bytes.ensures.fault)
