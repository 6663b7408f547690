use Rattle.std.proofs.Common.{◌≡◌}
use Rattle.std.proofs.lemmas.List.Sorted.{answers_always}
use Rattle.cv_rows.proofs.Sorting.{found_by_key}
use Rattle.cv_rows.proofs.places.position.Goals as goal

pub returns : goal.returns
returns c =
    let facts = c.binary_search_by_key.ensures in
    let by_key = facts.position (λ row. row.key.0) (answers_always _ _ _ (λ f a r g called. let h : r ≡ a.0.now.key.0 = called.met in h)) in
    rw c.ok.ensures.value (found_by_key c.args.rows.now c.args.key.now c.binary_search_by_key.result c.requires facts.bound by_key)
