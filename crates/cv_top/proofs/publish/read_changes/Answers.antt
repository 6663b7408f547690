use Rattle.std.proofs.Common.{◌∙◌}
use Rattle.cv_base.proofs.Laws.{left_by}
use Rattle.cv_top.specs.Publishes.{ReadsRoot, rooted, unrooted}
use Rattle.cv_top.proofs.publish.read_changes.Goals as goal

pub returns-in_err-root-clause-reads : goal.returns-in_err-root-clause-reads
returns-in_err-root-clause-reads g c =
    left_by (ReadsRoot g.F.Folder.holds g.F.Folder.named c.args.path.now c.args.root.now c.args.folder.now c.root.new.self) _ _ c.from_residual.ensures.1
    (unrooted c.in_err-root.field-0.0 c.in_err-root.ensures.unnamed c.in_err-root.ensures.lasts)

pub returns-clause-reads : goal.returns-clause-reads
returns-clause-reads g c =
    rooted _ (c.read_folder.ensures.stays ∙ c.in_ok-root.ensures.named) (c.read_folder.ensures.lasts ∙ c.in_ok-root.ensures.lasts)
    (λ of is. c.read_folder.ensures.told (of c.args.root.now) (c.in_ok-root.ensures.opens of is))
