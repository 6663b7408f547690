use Rattle.std.proofs.Common.{arith}
use Rattle.cv_rows.proofs.Sizes.{nested_le}
use Rattle.cv_rows.proofs.catalogue.Catalogue.encode.Goals as goal

pub catalogue-requires-clause-nested : goal.catalogue-requires-clause-nested
catalogue-requires-clause-nested c = omega (arith, nested_le c.self.inside.rows.items c.self.inside.nested.items, c.self.invariant.size, c.deref-2.ensures.len)
