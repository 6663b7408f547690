use Rattle.std.proofs.Common.{ap}
use Rattle.std.specs.Ordering.{is_lt}
use Rattle.std.specs.Cmp.Lexicographic.{nat_list_cmp_total}
use Rattle.std.proofs.lemmas.List.Sorted.{answers_always, ranks_by}
use Rattle.cv_base.specs.BytesOrder.{bytes_cmp}
use Rattle.cv_rows.specs.declared.row.Row.{Row}
use Rattle.cv_resolver.proofs.listing.by_name.Goals as goal

pub returns-clause-sorted : goal.returns-clause-sorted
returns-clause-sorted c =
    c.sort_unstable_by.ensures.sorted (λ a b. is_lt (bytes_cmp a.name b.name)) (ranks_by nat_list_cmp_total (λ (r : Row). r.name)) (answers_always _ _ _ (λ f a r g called. ap is_lt called.met))
