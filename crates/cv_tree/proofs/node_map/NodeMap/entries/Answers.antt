use Rattle.std.proofs.Common.{◌∙◌, sym, ap}
use Rattle.std.specs.FinMap as map
use Rattle.cv_base.proofs.Laws.{path_total}
use Rattle.cv_tree.proofs.Maps.{entries-from_entries}
use Rattle.cv_tree.proofs.node_map.NodeMap.entries.Goals as goal

pub loop-path-init : goal.loop-path-init
loop-path-init c =
    let given = c.into_iter-path-iterator.ensures.into_iter_gives in
    rw (given.0, c.new-entries.ensures.items) (sym (entries-from_entries path_total c.self.inside.nodes.entries given.5) ∙ ap map.entries c.self.view_is)
