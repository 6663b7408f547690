-- What the fields of a table in memory stand for, by which a name and an unsettled entry are found.
use Rattle.std.specs.Prelude.{◌≡◌, ◌↔◌, ℕ, false, not, count_by, ◌≤◌, ◌<◌, List, Vec, [], slice_index_or, length, All, vec_capacity}
use Rattle.std.specs.List.{Contains}
use Rattle.std.specs.BTreeMap.{get_by_text, IsOrdered}
use Rattle.std.specs.String.{string_cmp}
use Rattle.std.specs.declared.option.Option.{Option}
use Rattle.std.specs.declared.option.Option.TheVariants.{Some}
use Rattle.cv_vault.specs.Names.{Name}
use Rattle.cv_vault.specs.PlacesInner.{is_settled_place}
use Rattle.cv_vault.specs.Table.{Rows}
use Rattle.cv_vault.specs.TableInner.{any_entry, names_in, IsTable}
use Rattle.cv_vault.specs.declared.table.Entry.{Entry}
use Rattle.cv_vault.specs.declared.table.Table.TheInside.{Inside}

abbrev pub rows_of : Inside → Rows
rows_of t = record { names = t.names.items; contents = t.contents.items; entries = t.entries.items; changes = t.changes.items; room = vec_capacity t.changes }

-- each name has its place among the names for a number, and no other has one
abbrev pub AreNumbers : (Name → Option ℕ) → List Name → Type 0
AreNumbers number ns = (n : Name) (i : ℕ) → (number n ≡ Some i) ↔ ((i < length ns) × (slice_index_or ns i [] ≡ n))

-- the numbers are those of the entries that aren't settled, each once, and there is room for all
pub record AreUnsettled {Y : Type 0} (numbers : Vec ℕ Y) (es : List Entry) : Type 0 where
  pub within : All (λ k. k < length es) numbers.items
  pub each : (i : ℕ) → i < length es → is_settled_place (slice_index_or es i any_entry).place ≡ false → Contains numbers.items i
  pub count : length numbers.items ≡ count_by (λ e. not (is_settled_place e.place)) es
  pub room : length es ≤ vec_capacity numbers

-- the rows are a table's, each name is found by its number, and so are the entries that aren't settled
pub record IsIndexed (t : Inside) : Type 0 where
  pub table : IsTable (rows_of t)
  pub ordered : IsOrdered string_cmp t.numbers
  pub numbers : AreNumbers (get_by_text t.numbers) (names_in t.names.items t.entries.items)
  pub unsettled : AreUnsettled t.unsettled t.entries.items
