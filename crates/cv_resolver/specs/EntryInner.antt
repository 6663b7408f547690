-- What is told of an entry. What only this crate's own functions say.
use Rattle.cv_rows.specs.declared.row_kind.RowKind.{RowKind}
use Rattle.cv_rows.specs.declared.row_kind.RowKind.TheVariants as kind

-- the kind that is told of the entry of a row
abbrev pub entry_kind : RowKind → RowKind
entry_kind kind.Directory = kind.Directory
entry_kind kind.Transition = kind.Directory
entry_kind kind.NestedRoot = kind.Directory
entry_kind kind.File = kind.File
entry_kind kind.Link = kind.Link
