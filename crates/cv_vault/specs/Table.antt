-- What the numbers of a table in memory stand for.
use Rattle.std.specs.Prelude.{ℕ, List, [], map, slice_index_or}
use Rattle.cv_vault.specs.Names.{Name}
use Rattle.cv_vault.specs.Events.{NamedSlot, Event}
use Rattle.cv_vault.specs.Events as event
use Rattle.cv_vault.specs.Places.{file_in, slot_in}
use Rattle.cv_vault.specs.declared.table.Entry.{Entry}
use Rattle.cv_vault.specs.declared.table.Change.{Change}
use Rattle.cv_vault.specs.declared.table.Change.TheVariants.{Puts, PutsTwo, Settles}

-- what a table holds: the names and the contents, which have numbers by their places, the entries, the record of changes, and
-- how many changes there is room for
pub record Rows : Type 0 where
  pub names : List Name
  pub contents : List (List ℕ)
  pub entries : List Entry
  pub changes : List Change
  pub room : ℕ

-- the name with a number
abbrev pub name_in : List Name → ℕ → Name
name_in names k = slice_index_or names k []

abbrev pub named_in : List Name → List (List ℕ) → Entry → NamedSlot
named_in names contents e = record { name = name_in names e.name; first = file_in contents e.first; stands = slot_in contents e.place }

abbrev pub event_in : List Name → List (List ℕ) → Change → Event
event_in names contents (Puts n p) = event.Puts (name_in names n) (slot_in contents p)
event_in names contents (PutsTwo n p m q) = event.PutsTwo (name_in names n) (slot_in contents p) (name_in names m) (slot_in contents q)
event_in names contents Settles = event.Settles

abbrev pub entries_of : Rows → List NamedSlot
entries_of t = map (named_in t.names t.contents) t.entries

abbrev pub past_of : Rows → List Event
past_of t = map (event_in t.names t.contents) t.changes
