-- The first fault of bytes that are no row file: that of a field, or else the first rule that rows and nested entries break.
use Rattle.std.specs.Prelude.{◌≡◌, ◌≢◌, ℕ, ◌+◌, ◌-◌, ◌<◌, ◌⊎◌, List, length, slice_index_or, Contains, Result, Ok, Err}
use Rattle.std.specs.declared.cmp.Ordering.{Ordering}
use Rattle.std.specs.declared.cmp.Ordering.TheVariants.{Less}
use Rattle.std.specs.List.{All, AllWithin, AllAdjacentBelow, HoldsAt}
use Rattle.std.specs.List.Sorted.{IsStrictlySortedBy}
use Rattle.cv_base.specs.Path.{Path}
use Rattle.cv_rows.specs.Places.{IsRoot, StandsAt}
use Rattle.cv_rows.specs.Catalogue.{FitsAt, IsMarkedWell, IsTransitionAt, IsListed, row_cmp, nested_cmp}
use Rattle.cv_rows.specs.Reading.{Entries, entries_of}
use Rattle.cv_rows.specs.declared.row.Row.{Row}
use Rattle.cv_rows.specs.declared.nested.Nested.{Nested}
use Rattle.cv_rows.specs.declared.row_fault.RowFault.{RowFault}
use Rattle.cv_rows.specs.declared.row_fault.RowFault.TheVariants.{Order, BadKey, Orphan, Marker, NestedList, NoMemory}

-- the element at i is bad, and none before it is
pub record IsFirst {X : Type 0} (Bad : X → Type 0) (xs : List X) (i : ℕ) : Type 0 where
  pub within : i < length xs
  pub here : HoldsAt Bad xs i
  pub before : AllWithin (λ x. Bad x → ⊥) xs 0 i

-- the element at i isn't above its predecessor, and each before it is
pub record IsFirstDisorder {X : Type 0} (cmp : X → X → Ordering) (xs : List X) (i : ℕ) : Type 0 where
  pub later : 0 < i
  pub within : i < length xs
  pub here : (d : X) → cmp (slice_index_or xs (i - 1) d) (slice_index_or xs i d) ≢ Less
  pub before : AllAdjacentBelow (λ x y. cmp x y ≡ Less) xs i

-- the rules before each fault

abbrev pub AreOrdered : List Row → List Nested → Type 0
AreOrdered rows nested = IsStrictlySortedBy row_cmp rows × IsStrictlySortedBy nested_cmp nested

-- there is a root row, and each row stands at a path
pub record AllStand (at : Path) (rows : List Row) : Type 0 where
  pub root : (r : Row) × Contains rows r × IsRoot at r
  pub each : All (λ r. (q : Path) × StandsAt at rows r q) rows

abbrev pub AllFit : Path → List Row → Type 0
AllFit at rows = All (λ r. (q : Path) × StandsAt at rows r q × FitsAt at r q) rows

-- what each fault says of a row or a nested entry

abbrev pub IsOrphan : Path → List Row → Row → Type 0
IsOrphan at rows r = (q : Path) → StandsAt at rows r q → ⊥

abbrev pub IsMisplaced : Path → List Row → Row → Type 0
IsMisplaced at rows r = (q : Path) × StandsAt at rows r q × (FitsAt at r q → ⊥)

-- without a root row every row is an orphan, and so is the first where there are no rows
abbrev pub IsFirstOrphan : Path → List Row → ℕ → Type 0
IsFirstOrphan at rows i =
    (((r : Row) → Contains rows r → IsRoot at r → ⊥) × (i ≡ 0))
    ⊎ (((r : Row) × Contains rows r × IsRoot at r) × IsFirst (IsOrphan at rows) rows i)

-- a nested entry has no Transition row, or else a Transition row has no entry
abbrev pub IsFirstUnlisted : Path → List Row → List Nested → ℕ → Type 0
IsFirstUnlisted at rows nested i =
    IsFirst (λ n. IsTransitionAt at rows n.path → ⊥) nested i
    ⊎ (All (λ n. IsTransitionAt at rows n.path) nested × (i ≡ length nested) × ((r : Row) × Contains rows r × (IsListed at rows nested r → ⊥)))

-- the first rule that is broken, by its fault
abbrev pub IsRuleFault : Path → List Row → List Nested → RowFault → Type 0
IsRuleFault at rows nested (Order i) =
    IsFirstDisorder row_cmp rows i
    ⊎ (IsStrictlySortedBy row_cmp rows × ((k : ℕ) × (i ≡ length rows + k) × IsFirstDisorder nested_cmp nested k))
IsRuleFault at rows nested (Orphan i) = AreOrdered rows nested × IsFirstOrphan at rows i
IsRuleFault at rows nested (BadKey i) = AreOrdered rows nested × AllStand at rows × IsFirst (IsMisplaced at rows) rows i
IsRuleFault at rows nested (Marker i) =
    AreOrdered rows nested × AllStand at rows × AllFit at rows × IsFirst (λ r. IsMarkedWell at rows r → ⊥) rows i
IsRuleFault at rows nested (NestedList i) =
    AreOrdered rows nested × AllStand at rows × AllFit at rows × All (IsMarkedWell at rows) rows × IsFirstUnlisted at rows nested i
IsRuleFault at rows nested fault = ⊥

-- the fault of a field comes before those of the rules
abbrev pub IsFaultOf : Path → Result Entries RowFault → RowFault → Type 0
IsFaultOf at (Err first) fault = fault ≡ first
IsFaultOf at (Ok entries) fault = IsRuleFault at entries.0 entries.1 fault

-- the fault of these bytes as a row file at this place, or want of memory
abbrev pub IsFirstFault : List ℕ → Path → RowFault → Type 0
IsFirstFault bytes at fault = (fault ≡ NoMemory) ⊎ IsFaultOf at (entries_of bytes) fault
