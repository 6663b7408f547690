use Rattle.std.proofs.Common.{ℕ, ◌<◌, get_or}
use Rattle.cv_rows.specs.Catalogue.{IsTransitionAt}
use Rattle.cv_rows.specs.declared.nested.Nested.{Nested}
use Rattle.cv_rows.proofs.nested_list.first_unnamed.Given as goal

abbrev pub invariant-loop-i : goal.invariant-loop-i
invariant-loop-i l = (k : ℕ) (d : Nested) → k < l.i → IsTransitionAt l.at l.rows (get_or l.nested k d).path
