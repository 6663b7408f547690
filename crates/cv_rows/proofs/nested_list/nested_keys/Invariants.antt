use Rattle.std.proofs.Common.{◌≡◌, ℕ, List, take}
use Rattle.std.specs.BTreeSet.{contains}
use Rattle.cv_base.specs.BytesOrder.{bytes_cmp}
use Rattle.cv_rows.specs.NestedListInner.{has_key}
use Rattle.cv_rows.proofs.nested_list.nested_keys.Given as goal

abbrev pub invariant-loop-entry : goal.invariant-loop-entry
invariant-loop-entry l = (key : List ℕ) → contains bytes_cmp l.keys key ≡ has_key (take l.entry-index l.nested) key
