-- A catalogue without what a path covers.
use Rattle.std.specs.Prelude.{◌≡◌, Bool, not}
use Rattle.std.specs.List.{filter}
use Rattle.cv_base.specs.Path.{Path, covers}
use Rattle.cv_rows.specs.Catalogue.{Contents}
use Rattle.cv_rows.specs.Places.{StandsAt}
use Rattle.cv_rows.specs.declared.row.Row.{Row}

-- `left` has those rows of c that stand at paths which p doesn't cover, and those nested entries whose paths it doesn't
-- cover, each in their order, and nothing else
pub record IsWithout (c : Contents) (p : Path) (left : Contents) : Type 0 where
  pub at : left.at ≡ c.at
  pub stays : Row → Bool
  pub stays_is : (r : Row) (q : Path) → StandsAt c.at c.rows r q → stays r ≡ not (covers p q)
  pub rows : left.rows ≡ filter stays c.rows
  pub nested : left.nested ≡ filter (λ n. not (covers p n.path)) c.nested
