use Rattle.std.proofs.Common.{refl, inr}
use Rattle.cv_rows.proofs.RuleLaws.{unlisted, keeps}
use Rattle.cv_rows.proofs.rules.check_nested.Goals as goal

pub returns-in-Some-2 : goal.returns-in-Some-2
returns-in-Some-2 c =
    let lacks = rw c.in-Some-2.is at c.in_ok-first_unlisted.ensures in
    inr (c.requires.ordered, c.requires.stand, c.requires.fit, c.requires.marked, inr (rw c.in_default.is at c.in_ok-entry.ensures, refl, unlisted c.args.at.now c.args.rows.now c.args.nested.now c.in-Some-2.field-0 c.requires.ordered c.requires.fit lacks))

pub returns-in-None : goal.returns-in-None
returns-in-None c =
    keeps c.args.at.now c.args.rows.now c.args.nested.now c.requires.ordered c.requires.stand c.requires.fit c.requires.marked (rw c.in_default.is at c.in_ok-entry.ensures) (rw c.in-None.is at c.in_ok-first_unlisted.ensures)
