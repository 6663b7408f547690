-- What is told of an entry.
use Rattle.std.specs.Prelude.{[], length}
use Rattle.cv_tree.specs.declared.node.Node.{Node}
use Rattle.cv_tree.specs.declared.node.Node.TheVariants.{Dir, File, Link}
use Rattle.cv_rows.specs.declared.row_kind.RowKind.TheVariants as kind
use Rattle.cv_resolver.specs.declared.stat_line.StatLine.{StatLine}

abbrev pub stat_of : Node → StatLine
stat_of (Dir attr) = record { kind = kind.Directory; attr = attr; size = 0; target = [] }
stat_of (File attr file) = record { kind = kind.File; attr = attr; size = file.size; target = [] }
stat_of (Link attr target) = record { kind = kind.Link; attr = attr; size = length target; target = target }
