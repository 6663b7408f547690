-- Whether a catalogue fits the Transition row that names it.
use Rattle.std.specs.Prelude.{◌≡◌, Contains}
use Rattle.cv_rows.specs.Catalogue.{Contents}
use Rattle.cv_rows.specs.Places.{IsRoot}
use Rattle.cv_rows.specs.declared.row.Row.{Row}

-- the root row of the catalogue has the fields of the row but for its kind
abbrev pub FitsRow : Contents → Row → Type 0
FitsRow c transition = (root : Row) × Contains c.rows root × IsRoot c.at root × (root ≡ record transition { kind = root.kind })
