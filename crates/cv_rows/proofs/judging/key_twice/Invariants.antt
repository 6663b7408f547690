use Rattle.std.proofs.Common.{◌≡◌, ℕ, List, take, bytes_eq}
use Rattle.std.specs.BTreeSet.{contains}
use Rattle.std.specs.List.{list_any}
use Rattle.cv_base.specs.BytesOrder.{bytes_cmp}
use Rattle.cv_rows.specs.Made.{AreApart, keys_of}
use Rattle.cv_rows.proofs.judging.key_twice.Given as goal

abbrev pub invariant-loop-row : goal.invariant-loop-row
invariant-loop-row l = record {
  known : (key : List ℕ) → contains bytes_cmp l.keys key ≡ list_any (λ k. bytes_eq k key) (take l.row-index (keys_of l.rows));
  apart : AreApart (take l.row-index (keys_of l.rows));
}
