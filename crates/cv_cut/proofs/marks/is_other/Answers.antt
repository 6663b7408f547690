use Rattle.cv_cut.proofs.MadeEntries.{other_here, other_below}
use Rattle.cv_cut.proofs.marks.is_other.Goals as goal

pub returns-then-names : goal.returns-then-names
returns-then-names c = other_here c.args.tree.now c.args.cut.now c.args.path.now _ _ c.requires.covered c.names.ensures.names c.names-2.ensures.names c.if-names.true

pub returns : goal.returns
returns c = other_below c.args.tree.now c.args.cut.now c.args.path.now _ _ _ c.requires.covered c.names.ensures.names c.names-2.ensures.names c.if-names.false c.is_marked.ensures
