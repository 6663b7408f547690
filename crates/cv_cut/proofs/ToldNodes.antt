-- A row that holds others stands for a directory.
use Rattle.std.proofs.Common.{◌≡◌, true, Some, refl}
use Rattle.cv_rows.specs.Row.{holds_rows}
use Rattle.cv_rows.specs.declared.row.Row.{Row}
use Rattle.cv_rows.specs.declared.row_kind.RowKind.{RowKind}
use Rattle.cv_rows.specs.declared.row_kind.RowKind.TheVariants as kind
use Rattle.cv_tree.specs.Tree.{is_directory}
use Rattle.cv_cut.specs.Told.{node_as}

pub holder_directory : (k : RowKind) (r : Row) → holds_rows k ≡ true → is_directory (Some (node_as k r)) ≡ true
holder_directory kind.Directory r h = refl
holder_directory kind.Transition r h = refl
holder_directory kind.NestedRoot r h = refl
holder_directory kind.File r h = absurd cc
holder_directory kind.Link r h = absurd cc
