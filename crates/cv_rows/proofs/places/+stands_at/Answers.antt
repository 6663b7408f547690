use Rattle.std.proofs.lemmas.Slice.Eq.{slice_eq-Decides}
use Rattle.cv_rows.proofs.Standing.{same_names, at_root, no_names, other_name, without_parent, goes_up}
use Rattle.cv_rows.proofs.places.+stands_at.Goals as goal

pub returns-then-row-root : goal.returns-then-row-root
returns-then-row-root t c =
    at_root c.args.at.now c.args.rows.now c.args.root c.args.row c.args.names.now _ c.eq.result c.requires.ordered c.requires.inside c.requires.is_root c.if-row-root.true c.names.ensures.names
    (slice_eq-Decides same_names c.args.names.now _ c.eq.result c.eq.ensures)

pub returns-in_default : goal.returns-in_default
returns-in_default t c =
    no_names c.args.at.now c.args.rows.now c.args.root c.args.row c.args.names.now c.requires.ordered c.requires.inside c.requires.is_root c.requires.row c.if-row-root.false c.in_default.len_below

pub returns-then-ne : goal.returns-then-ne
returns-then-ne t c =
    other_name c.args.at.now c.args.rows.now c.args.root c.args.row c.args.names.now c.last-item.result _ _ c.index-rows-row.result c.requires.ordered c.requires.inside c.requires.is_root c.requires.row c.if-row-root.false
    c.in-len1-up.len_at_least c.last-item.is c.index-rows-row.is c.text.ensures.text c.as_str.ensures c.if-ne.ensures

pub returns-then-parent-rows : goal.returns-then-parent-rows
returns-then-parent-rows t c =
    goes_up c.args.at.now c.args.rows.now c.args.root c.args.row c.parent_of-parent.result c.args.names.now c.last-item.result _ _ c.index-rows-row.result c.stands_at.result c.requires.ordered c.requires.inside c.requires.is_root c.requires.row c.if-row-root.false
    c.parent_of-parent.ensures c.in-len1-up.len_at_least c.last-item.is c.index-rows-row.is c.text.ensures.text c.as_str.ensures c.if-ne.ensures c.if-parent-rows.true c.stands_at.ensures

pub returns-else-parent-rows : goal.returns-else-parent-rows
returns-else-parent-rows t c =
    without_parent c.args.at.now c.args.rows.now c.args.root c.args.row c.parent_of-parent.result c.args.names.now c.requires.ordered c.requires.inside c.requires.is_root c.requires.row c.if-row-root.false c.parent_of-parent.ensures c.if-parent-rows.false
