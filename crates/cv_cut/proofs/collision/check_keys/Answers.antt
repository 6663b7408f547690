use Rattle.std.proofs.Common.{◌∙◌}
use Rattle.cv_cut.specs.PieceInner.{IsSharedAmong}
use Rattle.cv_cut.proofs.Collisions.{all_apart, one_apart, region_keys, sharing_there, handed_on}
use Rattle.cv_cut.proofs.collision.check_keys.Goals as goal

pub returns-in_err-check_region-clause-err : goal.returns-in_err-check_region-clause-err
returns-in_err-check_region-clause-err c =
    let f = sharing_there c.args.tree.now c.requires.cuts.path c.args.cuts.now c.loop-cut.cut-index _ _ c.in_err-check_region.field-0.0 c.requires.cuts.is c.loop-cut-test.true c.cut-item.is (c.deref.ensures.value ∙ c.in_ok-region.ensures) c.in_err-check_region.ensures.err in
    handed_on (IsSharedAmong c.args.tree.now c.args.cuts.now) _ _ c.from_residual-in_err-check_region.ensures.1 f

pub loop-cut-preserved : goal.loop-cut-preserved
loop-cut-preserved c =
    let keys = region_keys c.args.tree.now _ _ (c.deref.ensures.value ∙ c.in_ok-region.ensures) c.in_ok-check_region.ensures.ok in
    one_apart c.args.tree.now c.args.cuts.now c.loop-cut.cut-index _ c.loop-cut.invariant c.loop-cut-test.true c.cut-item.is keys

pub returns-clause-ok : goal.returns-clause-ok
returns-clause-ok c = all_apart c.args.tree.now c.args.cuts.now c.loop-cut.cut-index c.loop-cut-test.false c.loop-cut.invariant
