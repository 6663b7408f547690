use Rattle.std.proofs.Common.{inr}
use Rattle.cv_rows.proofs.RuleLaws.{placing, all_stand, root_there}
use Rattle.cv_rows.proofs.rules.check_places.Goals as goal

pub returns-in-Some : goal.returns-in-Some
returns-in-Some c =
    let at = c.args.at.now in
    let rows = c.args.rows.now in
    let top = c.args.root in
    let placed = placing at rows c.args.nested.now top c.deref.result.now c.in_ok-above.above.items c.requires.ordered c.requires.root c.requires.is_root c.in_ok-above.ensures c.deref.ensures.value in
    inr (c.requires.ordered, inr (root_there at rows top c.requires.root c.requires.is_root, rw c.in-Some.is at (c.in_ok-row.ensures at placed)))

pub check_keys-requires-clause-stand : goal.check_keys-requires-clause-stand
check_keys-requires-clause-stand c =
    let at = c.args.at.now in
    let rows = c.args.rows.now in
    let top = c.args.root in
    let placed = placing at rows c.args.nested.now top c.deref.result.now c.in_ok-above.above.items c.requires.ordered c.requires.root c.requires.is_root c.in_ok-above.ensures c.deref.ensures.value in
    all_stand at rows top c.requires.root c.requires.is_root (rw c.in-None.is at (c.in_ok-row.ensures at placed))
