use Rattle.std.proofs.Common.{length, ap, arith}
use Rattle.cv_base.specs.declared.id.ObjectId.{ObjectId}
use Rattle.cv_overlay.specs.FoundInner.{FoundView}
use Rattle.cv_overlay.proofs.Objects.{file_added}
use Rattle.cv_overlay.proofs.found.Found.with_file.Goals as goal

pub invariant_of-result : goal.invariant_of-result
invariant_of-result c = (
  file_added c.self.inside.tree c.in_ok-tree.tree c.self.inside.contents c.in_ok-contents.contents c.args.path.now c.args.attr _ c.args.object.bytes c.self.invariant.0 c.in_ok-tree.ensures.made c.in_ok-tree.ensures.free
      (ap (λ (id : ObjectId). id.hash) c.requires.named) c.in_ok-contents.ensures c.requires.size,
  omega (arith, c.requires.sum, ap length c.as_slice.ensures, ap (λ (v : FoundView). v.sum) c.self.view_is),
)
