-- What the check of markers says of a row.
use Rattle.std.specs.Prelude.{Bool, true, false}
use Rattle.cv_base.specs.Path.{Path}
use Rattle.cv_rows.specs.Catalogue.{IsMarkedSo}
use Rattle.cv_rows.specs.declared.row.Row.{Row}

-- whether a row that has a marker, or none, may have it
abbrev pub MarksWell : Path → Row → Bool → Bool → Type 0
MarksWell at r is_marked true = IsMarkedSo at r is_marked
MarksWell at r is_marked false = IsMarkedSo at r is_marked → ⊥
