use Rattle.std.proofs.Common.{◌++◌, List, refl, ap, ◌∙◌}
use Rattle.std.proofs.lemmas.List.{append-nil}
use Rattle.cv_rows.specs.declared.nested.Nested.{Nested}
use Rattle.cv_rows.proofs.Lemmas.{parts_more}
use Rattle.cv_rows_tests.proofs.made.with.Goals as goal

pub with-requires : goal.with-requires
with-requires c =
    let whole = c.in_ok-whole.whole in
    let again = c.in_ok-more.more.items in
    parts_more whole whole.at _ whole.rows again (whole.rows ++ again) whole.nested (whole.nested ++ c.new.result.items) c.in_ok-whole.ensures.is refl c.in_ok-more.ensures refl (ap (λ (n : List Nested). whole.nested ++ n) c.new.ensures.items ∙ append-nil whole.nested)
