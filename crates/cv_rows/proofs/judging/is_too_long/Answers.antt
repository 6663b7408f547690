use Rattle.std.proofs.Common.{refl, arith}
use Rattle.std.proofs.lemmas.List.Folds.{length-flat_map-take}
use Rattle.cv_rows.specs.Nested.{nested_bytes}
use Rattle.cv_rows.proofs.judging.is_too_long.Goals as goal

pub returns-then-total-gt-OBJECT_LIMIT : goal.returns-then-total-gt-OBJECT_LIMIT
returns-then-total-gt-OBJECT_LIMIT c =
    let fits = length-flat_map-take nested_bytes c.args.nested.now c.loop-entry.entry-index c.entry-item.result c.loop-entry-test.true in
    (λ _. omega (arith, fits, c.loop-entry.invariant.value, c.if-total-gt-OBJECT_LIMIT.true), λ _. refl)
