use Rattle.cv_rows.proofs.Spelled.{not_placed, not_found}
use Rattle.cv_rows.proofs.spelling.is_placed.Goals as goal

pub returns-then-not-branch-clause-placed : goal.returns-then-not-branch-clause-placed
returns-then-not-branch-clause-placed c =
    not_placed c.args.at.now c.args.rows.now c.args.row c.args.left c.requires.left c.requires.stand c.requires.row
    (not_found c.args.at.now c.args.rows.now c.args.row c.args.left _ _ c.in_ok-spell.ensures.found c.if-not-branch.true)
