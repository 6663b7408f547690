use Rattle.std.proofs.Common.{◌≡◌, Some, sym, ◌∙◌}
use Rattle.cv_tree.specs.Changes.{subtree_of}
use Rattle.cv_tree.proofs.Laws.{FitsUnder-subtree_of}
use Rattle.cv_tree_tests.proofs.tests.replace_with_file.Goals as goal

pub add_file-requires : goal.add_file-requires
add_file-requires c =
    let found : subtree_of c.args.tree.now c.args.place.now ≡ Some c.in-Some.part = sym c.in_ok-part.ensures ∙ c.in-Some.is in
    rw found at (FitsUnder-subtree_of c.args.tree.now c.args.place.now c.get.ensures.tree)
