use Rattle.cv_rows.proofs.Lemmas.{parts_moved}
use Rattle.cv_rows_tests.proofs.made.of.Goals as goal

pub of-made-requires : goal.of-made-requires
of-made-requires c = parts_moved c.in_ok-rows.field-0-0 c.root-at.result c.in_ok-rows.rows.items c.reversed.result.items c.in_ok-rows.nested.items c.reversed-2.result.items c.in_ok-rows.ensures.is c.in_ok-rows.ensures.parts c.reversed.ensures c.reversed-2.ensures
