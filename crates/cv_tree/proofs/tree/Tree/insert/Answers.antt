use Rattle.cv_tree.proofs.Shapes.{IsTree-inserted}
use Rattle.cv_tree.proofs.tree.Tree.insert.Goals as goal

pub invariant_of-self : goal.invariant_of-self
invariant_of-self c =
    IsTree-inserted c.add.result c.self.inside.nodes c.add.new.self c.args.path.now c.args.node c.self.invariant c.add.ensures.answer c.add.ensures.ok c.add.ensures.err c.add.ensures.path c.requires
