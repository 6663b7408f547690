use Rattle.std.proofs.Common.{◌∙◌, sym, ap}
use Rattle.std.specs.FinMap as map
use Rattle.cv_base.proofs.Laws.{path_total}
use Rattle.cv_tree.proofs.Maps.{get-lookup}
use Rattle.cv_tree.proofs.node_map.NodeMap.get.Goals as goal

pub returns : goal.returns
returns c = c.get.ensures.value ∙ sym (get-lookup path_total c.self.inside.nodes.entries c.args.path.now) ∙ ap (λ m. map.get m c.args.path.now) c.self.view_is
