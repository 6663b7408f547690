use Rattle.std.proofs.Common.{◌∙◌, sym}
use Rattle.cv_cut.proofs.MadeEntries.{entry_made, not_unmade}
use Rattle.cv_cut.proofs.nested.other_entry.Goals as goal

pub unreachable-requires : goal.unreachable-requires
unreachable-requires c = not_unmade c.args.tree.now c.args.made.now c.args.cut.now c.args.path.now c.requires.made (sym c.in-None.ensures.value) (sym c.in_ok-is_other.ensures ∙ c.if-not-branch.false)

pub returns : goal.returns
returns c =
    entry_made c.args.tree.now _ c.args.made.now c.args.cut.now c.args.path.now _ _ c.requires.made (sym c.in-Some.ensures.value) c.in_ok-copy-in-Some.ensures (sym c.in_ok-is_other.ensures ∙ c.if-not-branch.false)
