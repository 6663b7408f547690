-- The first fault of bytes that are no row file: that of a field, or else the first rule that rows and nested entries break. What only this crate's own functions say.
use Rattle.std.specs.Prelude.{◌≡◌, ◌⊎◌, ℕ, Bool, true, false, List, slice_index_or, Result, Ok, Err}
use Rattle.std.specs.List.{All}
use Rattle.cv_base.specs.Path.{Path}
use Rattle.cv_rows.specs.Places.{StandsAt}
use Rattle.cv_rows.specs.Catalogue.{FitsAt, IsMarkedWell, IsTransitionAt, IsListed}
use Rattle.cv_rows.specs.declared.row.Row.{Row}
use Rattle.cv_rows.specs.declared.nested.Nested.{Nested}
use Rattle.cv_rows.specs.declared.row_fault.RowFault.{RowFault}
use Rattle.cv_rows.specs.declared.row_fault.RowFault.TheVariants.{NoMemory}
use Rattle.cv_rows.specs.Faults.{AllFit, AllStand, AreOrdered, IsMisplaced}

-- what is told of the row at an index: whether it stands at a path that it fits
abbrev pub IsPlaced : Path → List Row → ℕ → Bool → Type 0
IsPlaced at rows i true = (d : Row) → (q : Path) × StandsAt at rows (slice_index_or rows i d) q × FitsAt at (slice_index_or rows i d) q
IsPlaced at rows i false = (d : Row) → IsMisplaced at rows (slice_index_or rows i d)

-- all rules are kept
pub record KeepsRules (at : Path) (rows : List Row) (nested : List Nested) : Type 0 where
  pub ordered : AreOrdered rows nested
  pub stand : AllStand at rows
  pub fit : AllFit at rows
  pub marked : All (IsMarkedWell at rows) rows
  pub named : All (λ n. IsTransitionAt at rows n.path) nested
  pub listed : All (IsListed at rows nested) rows

-- what a check tells: the rules are kept, or which fault it is, or that memory was wanted
abbrev pub Checks : Type 0 → (RowFault → Type 0) → Result Unit RowFault → Type 0
Checks kept fails (Ok _) = kept
Checks kept fails (Err fault) = (fault ≡ NoMemory) ⊎ fails fault
