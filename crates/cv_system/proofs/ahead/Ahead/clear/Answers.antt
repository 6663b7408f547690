use Rattle.std.proofs.Common.{◌∙◌, List, ℕ, [], ap, slice_set, get_or}
use Rattle.std.proofs.lemmas.List.{get_or_default}
use Rattle.std.proofs.lemmas.List.Edits.{map_over_more}
use Rattle.cv_system.proofs.ahead.Ahead.clear.Goals as goal

pub loop-path-preserved : goal.loop-path-preserved
loop-path-preserved c =
    let paths = c.loop-path.path-items in
    let i = c.loop-path.path-index in
    let x = get_or paths i c.path-item.result in
    ap (λ (path : List ℕ). slice_set paths i path) c.clear.ensures
    ∙ map_over_more (λ _. []) c.deref_mut-path-items.result.now paths i x c.loop-path-test.true c.loop-path.invariant
    (get_or_default paths i c.path-item.result x (rw c.loop-path.auto.path-items c.loop-path-test.true))
