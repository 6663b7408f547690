use Rattle.std.proofs.Common.{◌≡◌, true, not, Bor, Option, Some, None, is_some, refl, sym, ap, ◌∙◌}
use Rattle.std.specs.Option.{option_copied}
use Rattle.cv_tree.proofs.Shapes.{IsPart-at}
use Rattle.cv_tree.proofs.tree.Tree.subtree.Goals as goal

copied_some : {X : Type 0} (r : Option (Bor X)) → is_some r ≡ true → is_some (option_copied r) ≡ true
copied_some None h = cc
copied_some (Some x) h = refl

pub invariant_of-result : goal.invariant_of-result
invariant_of-result c =
    let found : is_some c.get.result ≡ true = c.is_none.ensures ∙ ap not c.if-is_none.false in
    rw c.in_ok-nodes.ensures (IsPart-at c.self.inside.nodes c.args.path.now c.self.invariant.part (ap is_some (sym c.get.ensures) ∙ copied_some c.get.result found))
