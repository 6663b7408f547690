-- What the check of nested entries says.
use Rattle.std.specs.Prelude.{◌≡◌, ℕ, Bool, true, false, ◌&&◌, bytes_eq, List, Option, Some, None}
use Rattle.std.specs.BTreeSet.{BTreeSet, contains}
use Rattle.std.specs.List.{list_any}
use Rattle.cv_base.specs.BytesOrder.{bytes_cmp}
use Rattle.cv_base.specs.Path.{Path, key_of, same_path}
use Rattle.cv_rows.specs.Row.{same_kind}
use Rattle.cv_rows.specs.declared.row.Row.{Row}
use Rattle.cv_rows.specs.declared.nested.Nested.{Nested}
use Rattle.cv_rows.specs.declared.row_kind.RowKind.TheVariants.{Transition}

-- a row, of which this path was found, is the Transition row of a path
abbrev pub is_transition : Row → Option Path → Path → Bool
is_transition r None path = false
is_transition r (Some found) path = same_kind r.kind Transition && same_path found path

-- the path of a nested entry has this key
abbrev pub has_key : List Nested → List ℕ → Bool
has_key nested key = list_any (λ n. bytes_eq (key_of n.path) key) nested

-- the key of a Transition row is that of a nested entry
abbrev pub HasNested : List Nested → Row → Type 0
HasNested nested r = r.kind ≡ Transition → has_key nested r.key.0 ≡ true

-- the row is a Transition with another key, or not
abbrev pub IsListedBy : BTreeSet (List ℕ) → Row → Bool → Type 0
IsListedBy keys r true = r.kind ≡ Transition → contains bytes_cmp keys r.key.0 ≡ true
IsListedBy keys r false = (r.kind ≡ Transition) × (contains bytes_cmp keys r.key.0 ≡ false)
