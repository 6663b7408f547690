-- Catalogues that are made of rows and nested entries in any order. What only this crate's own functions say.
use Rattle.std.specs.Prelude.{List, Result, Ok, Err}
use Rattle.cv_rows.specs.declared.row.Row.{Row}
use Rattle.cv_rows.specs.declared.nested.Nested.{Nested}
use Rattle.cv_rows.specs.declared.with_fault.WithFault.{WithFault}
use Rattle.cv_rows.specs.declared.with_fault.WithFault.TheVariants.{Collision, Full, NoMemory}
use Rattle.cv_rows.specs.Made.{AreApart, IsTwice, PassesLimit, keys_of}

-- what a judge of rows and nested entries says
abbrev pub Judges : List Row → List Nested → Result Unit WithFault → Type 0
Judges rows nested (Ok _) = AreApart (keys_of rows) × (PassesLimit rows nested → ⊥)
Judges rows nested (Err (Collision key)) = IsTwice (keys_of rows) key.0
Judges rows nested (Err Full) = AreApart (keys_of rows) × PassesLimit rows nested
Judges rows nested (Err NoMemory) = Unit {0}
