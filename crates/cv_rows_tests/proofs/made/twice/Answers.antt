use Rattle.std.proofs.Common.{refl}
use Rattle.cv_rows.proofs.Lemmas.{parts_more}
use Rattle.cv_rows_tests.proofs.made.twice.Goals as goal

pub of-made-requires : goal.of-made-requires
of-made-requires c =
    parts_more c.in_ok-whole.whole c.root-at.result _ c.in_ok-whole.rows.items c.in_ok-more.more.items _ c.in_ok-whole.nested.items _ c.in_ok-whole.ensures.is c.in_ok-whole.ensures.parts c.in_ok-more.ensures c.in_ok-append.ensures.items refl
