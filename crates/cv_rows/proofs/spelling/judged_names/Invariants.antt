use Rattle.std.proofs.Common.{◌≡◌, map, take}
use Rattle.cv_base.specs.Path.{is_path_name}
use Rattle.cv_rows.proofs.spelling.judged_names.Given as goal

abbrev pub invariant-loop-row : goal.invariant-loop-row
invariant-loop-row l = l.named.items ≡ map (λ r. is_path_name r.name) (take l.row-index l.rows)
