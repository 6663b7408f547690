use Rattle.std.proofs.Common.{ℕ, ◌<◌, get_or}
use Rattle.cv_rows.specs.Toward.{IsAbove}
use Rattle.cv_rows.specs.declared.nested.Nested.{Nested}
use Rattle.cv_rows.proofs.nested_list.position_above.Given as goal

abbrev pub invariant-loop-i : goal.invariant-loop-i
invariant-loop-i l = (k : ℕ) (d : Nested) → k < l.i → IsAbove (get_or l.nested k d).path l.path → ⊥
