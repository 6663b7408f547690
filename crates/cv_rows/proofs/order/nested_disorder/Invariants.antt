use Rattle.std.proofs.Common.{◌≡◌}
use Rattle.std.specs.declared.cmp.Ordering.TheVariants.{Less}
use Rattle.std.specs.List.{AllAdjacentBelow}
use Rattle.cv_rows.specs.Catalogue.{nested_cmp}
use Rattle.cv_rows.proofs.order.nested_disorder.Given as goal

abbrev pub invariant-loop-i : goal.invariant-loop-i
invariant-loop-i l = AllAdjacentBelow (λ x y. nested_cmp x y ≡ Less) l.nested l.i
