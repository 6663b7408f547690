use Rattle.std.proofs.Common.{not, rules}
use Rattle.std.proofs.lemmas.Map.Made.{filter_same_pairs}
use Rattle.cv_base.specs.Path.{covers}
use Rattle.cv_tree.proofs.Gathers.{outside-alone}
use Rattle.cv_tree.proofs.node_map.NodeMap.remove_covered.Goals as goal

pub returns : goal.returns
returns c =
    let kept = filter_same_pairs _ (λ e. not (covers c.args.path.now e.0)) _ (λ k v b w f t. search rules) _ _ c.retain.ensures.filtered in
    rw kept (outside-alone c.args.path.now c.self.inside.nodes.entries c.args.self.now c.self.view_is c.retain.ensures.was_ordered)
