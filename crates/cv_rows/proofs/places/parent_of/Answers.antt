use Rattle.std.proofs.Common.{sym}
use Rattle.cv_rows.proofs.ParentLaws.{no_parent, other_parent}
use Rattle.cv_rows.proofs.places.parent_of.Goals as goal

pub returns-in_default : goal.returns-in_default
returns-in_default c =
    no_parent c.args.rows.now c.args.root c.args.row _ c.if-row-root.false c.requires.row c.index-rows-row.is (λ p has child. c.in_default.ensures p has (sym child.parent))

pub returns-else-is_child : goal.returns-else-is_child
returns-else-is_child c =
    no_parent c.args.rows.now c.args.root c.args.row _ c.if-row-root.false c.requires.row c.index-rows-row.is
    (other_parent c.args.rows.now c.in-Some.parent _ _ c.requires.ordered c.in-Some.ensures.0 c.index-rows-parent.is c.in-Some.ensures.1 (λ child. let is = c.is_child.ensures.1 child in cc))
