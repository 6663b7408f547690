use Rattle.std.proofs.Common.{None, Some}
use Rattle.cv_tree.proofs.Fits.{FitsUnder-empty}
use Rattle.cv_tree.proofs.Shapes.{IsTree-replaced}
use Rattle.cv_tree.proofs.tree.Tree.replace.Goals as goal

pub invariant_of-self : goal.invariant_of-self
invariant_of-self c =
    IsTree-replaced c.replace.result c.self.inside.nodes c.replace.new.self c.args.path.now (Some c.part.inside.nodes) c.self.invariant c.part.invariant
    c.replace.ensures.answer c.replace.ensures.ok c.replace.ensures.err
    (rw c.part.view_is (rw c.in-Some.is at c.requires.limits)) (rw c.part.view_is (rw c.in-Some.is at c.requires.root))

pub invariant_of-self-in-None : goal.invariant_of-self-in-None
invariant_of-self-in-None c =
    IsTree-replaced c.remove.result c.self.inside.nodes c.remove.new.self c.args.path.now None c.self.invariant tt
    c.remove.ensures.answer c.remove.ensures.ok c.remove.ensures.err (FitsUnder-empty c.args.path.now) (rw c.in-None.is at c.requires.root)
