use Rattle.std.proofs.Common.{ap}
use Rattle.std.specs.Ordering.{is_lt}
use Rattle.std.specs.Cmp.Lexicographic.{nat_list_cmp_total}
use Rattle.std.proofs.lemmas.List.Sorted.{answers_always, ranks_by}
use Rattle.cv_base.specs.Path.{text_of}
use Rattle.cv_rows.specs.Catalogue.{nested_cmp}
use Rattle.cv_rows.specs.declared.nested.Nested.{Nested}
use Rattle.cv_rows.proofs.InOrder.{strict, sorted_is}
use Rattle.cv_rows.proofs.order.nested_by_text.Goals as goal

pub returns-clause-is : goal.returns-clause-is
returns-clause-is c =
    let e = c.sort_unstable_by.ensures in
    sorted_is (λ (n : Nested). text_of n.path) c.args.nested.items _ e.permutation c.requires (e.sorted (λ a b. is_lt (nested_cmp a b)) (ranks_by nat_list_cmp_total (λ (n : Nested). text_of n.path)) (answers_always _ _ _ (λ f a r g called. ap is_lt called.met)))

pub returns-clause-sorted : goal.returns-clause-sorted
returns-clause-sorted c =
    let e = c.sort_unstable_by.ensures in
    strict (λ (n : Nested). text_of n.path) c.args.nested.items _ e.permutation c.requires (e.sorted (λ a b. is_lt (nested_cmp a b)) (ranks_by nat_list_cmp_total (λ (n : Nested). text_of n.path)) (answers_always _ _ _ (λ f a r g called. ap is_lt called.met)))
