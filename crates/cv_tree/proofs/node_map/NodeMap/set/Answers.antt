use Rattle.std.proofs.Common.{◌∙◌, ap}
use Rattle.std.specs.FinMap as map
use Rattle.cv_base.proofs.Laws.{path_total, path_exact}
use Rattle.cv_tree.proofs.Maps.{insert-lookup}
use Rattle.cv_tree.proofs.node_map.NodeMap.set.Goals as goal

pub returns-clause-ok : goal.returns-clause-ok
returns-clause-ok c = insert-lookup path_total path_exact c.self.inside.nodes.entries c.insert.new.self.entries c.args.path c.args.node c.in_ok-insert.ensures.updates.0 ∙ ap (λ m. map.insert m c.args.path c.args.node) c.self.view_is
