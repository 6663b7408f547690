-- What a catalogue has at a path and below it.
use Rattle.std.specs.Prelude.{◌≡◌, Bool, List}
use Rattle.std.specs.List.{filter}
use Rattle.cv_base.specs.Path.{Path, covers}
use Rattle.cv_rows.specs.Catalogue.{Contents}
use Rattle.cv_rows.specs.Places.{StandsAt}
use Rattle.cv_rows.specs.declared.row.Row.{Row}
use Rattle.cv_rows.specs.declared.nested.Nested.{Nested}

-- these are the rows of c that stand at paths which p covers, and the nested entries whose paths it covers, each in their order
pub record IsWithin (c : Contents) (p : Path) (rows : List Row) (nested : List Nested) : Type 0 where
  pub goes : Row → Bool
  pub goes_is : (r : Row) (q : Path) → StandsAt c.at c.rows r q → goes r ≡ covers p q
  pub rows_are : rows ≡ filter goes c.rows
  pub nested_are : nested ≡ filter (λ n. covers p n.path) c.nested
