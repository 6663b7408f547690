use Rattle.std.proofs.Common.{◌≡◌, true, IfSome, sym, subst}
use Rattle.std.specs.FinMap.{get}
use Rattle.cv_tree.specs.Tree.{Nodes}
use Rattle.cv_tree.specs.Changes.{has_place}
use Rattle.cv_tree.proofs.Shapes.{IsTree-placed}
use Rattle.cv_tree.proofs.tree.Tree.place.Goals as goal

pub invariant_of-self : goal.invariant_of-self
invariant_of-self c =
    let place = subst (λ (t : Nodes). has_place t c.args.path ≡ true) (sym c.self.view_is) c.requires.place in
    let alone = subst (λ (t : Nodes). IfSome (get t c.args.path) (λ there. there ≡ c.args.node)) (sym c.self.view_is) c.requires.alone in
    IsTree-placed c.set.result c.self.inside.nodes c.set.new.self c.args.path c.args.node c.self.invariant place alone c.set.ensures.ok c.set.ensures.err c.names-names.ensures.limits c.requires.node
