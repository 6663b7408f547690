use Rattle.std.proofs.Common.{◌≡◌, take, filter}
use Rattle.cv_rows.specs.Catalogue.{is_below}
use Rattle.cv_rows.proofs.children.children_of.Given as goal

abbrev pub invariant-loop-row : goal.invariant-loop-row
invariant-loop-row l = l.children.items ≡ filter (λ r. is_below r l.key) (take l.row-index l.rows)
