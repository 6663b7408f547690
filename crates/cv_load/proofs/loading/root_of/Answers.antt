use Rattle.std.proofs.Common.{◌≡◌}
use Rattle.std.proofs.lemmas.Result.{IfOk-weaker}
use Rattle.cv_tree.specs.Tree.{Nodes, single}
use Rattle.cv_tree.specs.declared.node.Node.TheVariants.{Dir}
use Rattle.cv_load.specs.Growth.{IsRootOf}
use Rattle.cv_load.proofs.loading.root_of.Goals as goal

pub returns : goal.returns
returns c =
    IfOk-weaker c.new.result (λ (t : Nodes). t ≡ single (Dir c.root.result.now.attr)) (IsRootOf c.args.catalogue.now) (λ t e. (c.root.result.now, c.root.ensures.0, c.root.ensures.1, e)) c.new.ensures
