use Rattle.std.specs.BTreeSet.{contains}
use Rattle.cv_base.specs.BytesOrder.{bytes_cmp}
use Rattle.cv_rows.proofs.Covering.{AreKnown}
use Rattle.cv_rows.proofs.covered.covered_keys.Given as goal

abbrev pub invariant-loop-row : goal.invariant-loop-row
invariant-loop-row l = AreKnown l.at l.rows l.path l.row (contains bytes_cmp l.keys)
