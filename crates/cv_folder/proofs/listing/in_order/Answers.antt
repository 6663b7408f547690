use Rattle.std.proofs.Common.{ap, subst, sym, rules}
use Rattle.std.specs.Prelude.{ℕ, List}
use Rattle.std.specs.Ordering.{is_lt}
use Rattle.std.specs.List.Sorted.{IsStrictlySortedBy}
use Rattle.std.specs.Cmp.Lexicographic.{nat_list_cmp_total}
use Rattle.std.proofs.lemmas.Fn.{dedup_same}
use Rattle.std.proofs.lemmas.List.Sorted.{answers_always, ranks_by}
use Rattle.cv_base.specs.Path.{same_name}
use Rattle.cv_base.specs.BytesOrder.{bytes_cmp}
use Rattle.cv_folder.proofs.Listed.{ascending, same_texts}
use Rattle.cv_folder.proofs.listing.in_order.Goals as goal

pub returns-clause-ascending : goal.returns-clause-ascending
returns-clause-ascending c =
    let left = dedup_same _ same_name _ (λ x y b f' x' y' k. search rules) _ _ c.dedup_by.ensures.filtered in
    subst (IsStrictlySortedBy bytes_cmp) (sym left)
    (ascending c.sort_unstable_by.new.self.items (c.sort_unstable_by.ensures.sorted (λ a b. is_lt (bytes_cmp a b)) (ranks_by nat_list_cmp_total (λ (n : List ℕ). n)) (answers_always _ _ _ (λ f a r g called. ap is_lt called.met))))

pub returns-clause-same : goal.returns-clause-same
returns-clause-same c = λ text.
    let left = dedup_same _ same_name _ (λ x y b f' x' y' k. search rules) _ _ c.dedup_by.ensures.filtered in
    rw left (same_texts c.args.found.items c.sort_unstable_by.new.self.items c.sort_unstable_by.ensures.permutation text)
