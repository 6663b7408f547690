-- Reading the fields of a row file, one after another from its first byte on: its rows and nested entries, or the first fault. What only this crate's own functions say.
use Rattle.std.specs.Prelude.{ℕ, if◌then◌else◌, List, Option, Some, None, Result}
use Rattle.std.specs.Result.{result_map_both}
use Rattle.cv_base.specs.Unless.{IsUnless}
use Rattle.cv_rows.specs.Row.{is_row_name}
use Rattle.cv_rows.specs.declared.row_fault.RowFault.{RowFault}
use Rattle.cv_rows.specs.declared.row_fault.RowFault.TheVariants.{NoMemory}

-- what a function returned, seen by view, is what reading gives, unless it wanted memory
abbrev pub Gives : {X Y : Type 0} → (X → Y) → Result X RowFault → Result Y RowFault → Type 0
Gives view result read = IsUnless NoMemory (result_map_both view (λ fault. fault) result) read

-- the name that a text is, in a row with this parent key
abbrev pub row_name_of : List ℕ → List ℕ → Option (List ℕ)
row_name_of parent name = if is_row_name parent name then Some name else None
