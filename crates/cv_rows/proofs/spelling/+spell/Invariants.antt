use Rattle.cv_rows.proofs.spelling.+spell.Given as goal

abbrev pub decreases-spell : goal.decreases-spell
decreases-spell l = l.left
