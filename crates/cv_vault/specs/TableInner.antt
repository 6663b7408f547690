-- What the numbers of a table in memory stand for. What only this crate's own functions say.
use Rattle.std.specs.Prelude.{◌≡◌, ◌≢◌, ℕ, Bool, ◌&&◌, is_some, nat_eq, ◌+◌, ◌≤◌, ◌<◌, List, [], ◌∷◌, ◌++◌, map, slice_index_or, slice_set, length, All}
use Rattle.std.specs.List.{starts_with}
use Rattle.std.specs.declared.option.Option.{Option}
use Rattle.std.specs.declared.option.Option.TheVariants.{None}
use Rattle.cv_vault.specs.Names.{Name}
use Rattle.cv_vault.specs.Disk as disk
use Rattle.cv_vault.specs.Events.{Event, IfDiffers, replay, any_unsettled, file_count}
use Rattle.cv_vault.specs.EventsInner.{disk_of, first_disk}
use Rattle.cv_vault.specs.Events as event
use Rattle.cv_vault.specs.PlacesInner.{left_place, next_pick, IsFileIn, IsPlaceIn}
use Rattle.cv_vault.specs.declared.place.PlaceMark.TheVariants.{Settled}
use Rattle.cv_vault.specs.declared.table.Entry.{Entry}
use Rattle.cv_vault.specs.declared.table.Change.{Change}
use Rattle.cv_vault.specs.declared.table.Change.TheVariants.{Puts, PutsTwo, Settles}
use Rattle.cv_vault.specs.Table.{Rows, entries_of, name_in, past_of}

-- an entry, where none is asked for
abbrev pub any_entry : Entry
any_entry = record { name = 0; first = None; place = record { now = None; mark = Settled } }

abbrev pub names_in : List Name → List Entry → List Name
names_in names es = map (λ e. name_in names e.name) es

-- the name isn't among these
abbrev pub Lacks : Name → List Name → Type 0
Lacks n ns = All (λ m. n ≢ m) ns

-- no two places have the same name
abbrev pub AreApart : List Name → Type 0
AreApart ns = (i j : ℕ) → i < length ns → j < length ns → slice_index_or ns i [] ≡ slice_index_or ns j [] → i ≡ j

-- the entry at a place
abbrev pub entry_at : Rows → ℕ → Entry
entry_at t i = slice_index_or t.entries i any_entry

-- a name has a file and begins so
abbrev pub is_listed : disk.Disk → Name → Name → Bool
is_listed d prefix n = is_some (d n).now && starts_with nat_eq n prefix

-- an entry that is settled
abbrev pub settled_entry : Entry → Entry
settled_entry e = record { name = e.name; first = e.first; place = record { now = e.place.now; mark = Settled } }

-- the entries, where those with these numbers are settled
abbrev pub settled_each : List ℕ → List Entry → List Entry
settled_each [] es = es
settled_each (k ∷ ks) es = settled_each ks (slice_set es k (settled_entry (slice_index_or es k any_entry)))

-- an entry that a crash left with this file
abbrev pub crashed_entry : Entry → Option ℕ → Entry
crashed_entry e k = record { name = e.name; first = k; place = record { now = k; mark = Settled } }

-- the entry after a crash by the lowest bit of a pick
abbrev pub crash_at : ℕ → Entry → Entry
crash_at pick e = crashed_entry e (left_place pick e.place)

-- the entries that a crash leaves by the bits of a pick, which goes over these names with the numbers of their entries
abbrev pub crashed : {K : Type 0} → ℕ → List (K × ℕ) → List Entry → List Entry
crashed pick [] es = es
crashed pick (p ∷ ps) es =
    crashed (next_pick pick (slice_index_or es p.1 any_entry).place) ps (slice_set es p.1 (crash_at pick (slice_index_or es p.1 any_entry)))

-- the entry at a place is that of a name
abbrev pub IsEntryOf : Rows → Name → ℕ → Type 0
IsEntryOf t n i = (i < length t.entries) × (name_in t.names (entry_at t i).name ≡ n)

-- the disk that a table stands for
abbrev pub table_disk : Rows → disk.Disk
table_disk t = disk_of (entries_of t)

abbrev pub table_first : Rows → disk.Disk
table_first t = first_disk (entries_of t)

pub record IsEntryIn (names contents : ℕ) (e : Entry) : Type 0 where
  pub name : e.name < names
  pub first : IsFileIn contents e.first
  pub place : IsPlaceIn contents e.place

abbrev pub IsChangeIn : ℕ → ℕ → Change → Type 0
IsChangeIn names contents (Puts n p) = (n < names) × IsPlaceIn contents p
IsChangeIn names contents (PutsTwo n p m q) = (n < names) × IsPlaceIn contents p × (m < names) × IsPlaceIn contents q
IsChangeIn names contents Settles = Unit {0}

-- the numbers are in range, no two entries are of one name, and the record of changes says how the disk came to be
pub record IsTable (t : Rows) : Type 0 where
  pub entries : All (IsEntryIn (length t.names) (length t.contents)) t.entries
  pub changes : All (IsChangeIn (length t.names) (length t.contents)) t.changes
  pub apart : AreApart (names_in t.names t.entries)
  pub linked : table_disk t ≡ replay (past_of t) (table_first t)

-- the disk and the record of its changes are as before
pub record Stays (t t' : Rows) : Type 0 where
  pub disk : table_disk t' ≡ table_disk t
  pub first : table_first t' ≡ table_first t
  pub past : past_of t' ≡ past_of t
  pub changes : t'.changes ≡ t.changes
  pub room : t'.room ≡ t.room
  pub files : file_count (entries_of t') ≡ file_count (entries_of t)
  pub unsettled : any_unsettled (entries_of t') ≡ any_unsettled (entries_of t)

-- the record has one change more, in the room that it had
pub record Adds (e : Event) (t t' : Rows) : Type 0 where
  pub disk : table_disk t' ≡ event.after e (table_disk t)
  pub first : table_first t' ≡ table_first t
  pub past : past_of t' ≡ past_of t ++ e ∷ []
  pub len : length t'.changes ≡ length t.changes + 1
  pub room : t'.room ≡ t.room

-- the change is made: the record has one change more where a name or its state is another by it, and else all is as before
abbrev pub Makes : Event → Rows → Rows → Type 0
Makes e t t' = IfDiffers (table_disk t) (event.after e (table_disk t)) (Adds e t t') (Stays t t')

-- the record has at most one change more, in the room that it had
pub record TakesOne (t t' : Rows) : Type 0 where
  pub not_less : length t.changes ≤ length t'.changes
  pub at_most : length t'.changes ≤ length t.changes + 1
  pub room : t'.room ≡ t.room
