use Rattle.std.proofs.Common.{◌≡◌}
use Rattle.std.proofs.lemmas.List.Sorted.{answers_always}
use Rattle.cv_rows.specs.declared.row.Row.{Row}
use Rattle.cv_rows.proofs.InOrder.{strict, sorted_is}
use Rattle.cv_rows.proofs.order.rows_by_key.Goals as goal

pub returns-clause-is : goal.returns-clause-is
returns-clause-is c =
    let e = c.sort_unstable_by_key.ensures in
    sorted_is (λ (r : Row). r.key.0) c.args.rows.items _ e.permutation c.requires (e.sorted (λ r. r.key.0) (answers_always _ _ _ (λ f a r g called. let h : r ≡ a.0.now.key.0 = called.met in h)))

pub returns-clause-sorted : goal.returns-clause-sorted
returns-clause-sorted c =
    let e = c.sort_unstable_by_key.ensures in
    strict (λ (r : Row). r.key.0) c.args.rows.items _ e.permutation c.requires (e.sorted (λ r. r.key.0) (answers_always _ _ _ (λ f a r g called. let h : r ≡ a.0.now.key.0 = called.met in h)))
