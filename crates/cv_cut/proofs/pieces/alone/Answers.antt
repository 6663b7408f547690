use Rattle.std.proofs.Common.{ap, ◌∙◌}
use Rattle.std.specs.declared.option.Option.{Option}
use Rattle.std.specs.Option.{option_copied}
use Rattle.cv_tree.specs.Tree.{Nodes, put}
use Rattle.cv_tree.specs.Changes.{nodes_of}
use Rattle.cv_cut.proofs.PieceLaws.{only_there}
use Rattle.cv_cut.proofs.pieces.alone.Goals as goal

pub returns-in-Ok : goal.returns-in-Ok
returns-in-Ok c =
    only_there c.in_ok-tree.tree c.replace.new.self c.args.path.now (nodes_of (option_copied c.args.part)) c.in_ok-tree.ensures c.requires.unmarked
    (c.in-Ok.ensures.ok ∙ ap (λ (o : Option Nodes). put c.in_ok-tree.tree c.args.path.now (nodes_of o)) c.in_ok-part.ensures)
