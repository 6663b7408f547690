-- How many bytes a row file has at least.
use Rattle.std.proofs.Common.{◌≤◌, List, [], ◌∷◌, ◌++◌, length, codes, ap, arith, length-append}
use Rattle.std.proofs.lemmas.List.Concat.{flat_map-cons}
use Rattle.std.specs.Int.{w32, w64, to_be_bytes}
use Rattle.std.specs.List.{flat_map}
use Rattle.cv_base.specs.Path.{text_of}
use Rattle.cv_base.specs.Fields.{text_field}
use Rattle.cv_rows.specs.Row.{row_bytes}
use Rattle.cv_rows.specs.Nested.{nested_bytes}
use Rattle.cv_rows.specs.Catalogue.{file_of}
use Rattle.cv_rows.specs.declared.row.Row.{Row}
use Rattle.cv_rows.specs.declared.nested.Nested.{Nested}

-- an entry has at least a byte
some_bytes : (n : Nested) → 1 ≤ length (nested_bytes n)
some_bytes n =
    omega (arith, length-append (text_field (text_of n.path) ++ n.hash) (to_be_bytes w64 n.size))

entries_fit : (ns : List Nested) → length ns ≤ length (flat_map nested_bytes ns)
entries_fit [] = omega arith
entries_fit (n ∷ ns) =
    omega (arith, ap length (flat_map-cons nested_bytes n ns), length-append (nested_bytes n) (flat_map nested_bytes ns), some_bytes n, entries_fit ns)

-- there are no more nested entries than bytes
pub nested_le : (rows : List Row) (nested : List Nested) → length nested ≤ length (file_of rows nested)
nested_le rows nested =
    omega (arith, entries_fit nested, length-append (codes "CVR1" ++ to_be_bytes w32 (length rows) ++ to_be_bytes w32 (length nested) ++ flat_map row_bytes rows) (flat_map nested_bytes nested))
