-- An answer that is no fault tells its value.
use Rattle.std.proofs.Common.{Result, Ok}
use Rattle.cv_rows.specs.declared.row_fault.RowFault.{RowFault}

abbrev done : {A : Type 0} → A → Result A RowFault
done x = Ok x
