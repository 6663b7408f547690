use Rattle.std.proofs.Common.{◌≡◌, ◌≤◌, map, take}
use Rattle.std.specs.List.{All, filter}
use Rattle.cv_cut.specs.Cut.{is_other, nested_in}
use Rattle.cv_cut.proofs.nested.nested.Given as goal

abbrev pub invariant-loop-entry : goal.invariant-loop-entry
invariant-loop-entry l = record {
  entries : l.nested.items ≡ map (λ e. nested_in l.tree e.0) (filter (λ e. is_other l.tree l.cut e.0) (take l.entry-index l.region));
  sizes : All (λ n. n.size ≤ 16777216) l.nested.items;
}
