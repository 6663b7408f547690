-- The disk of a vault: what stands at each name, and what a crash may make of it.
use Rattle.std.specs.Prelude.{◌≡◌, ◌⊎◌, ◌↔◌, ℕ, Bool, true, false, ◌&&◌, List, Vec, length, IsSome, IsTrue, if◌then◌else◌, nat_eq}
use Rattle.std.specs.List.{Contains, starts_with}
use Rattle.std.specs.List.Sorted.{IsStrictlySortedBy}
use Rattle.std.specs.Option.{option_map}
use Rattle.std.specs.declared.option.Option.{Option}
use Rattle.std.specs.declared.option.Option.TheVariants.{None, Some}
use Rattle.std.specs.declared.result.Result.{Result}
use Rattle.std.specs.declared.result.Result.TheVariants.{Ok, Err}
use Rattle.cv_base.specs.BytesOrder.{bytes_cmp}
use Rattle.cv_vault.specs.Names.{Name, same_name}
use Rattle.cv_vault.specs.declared.vault.VaultFault.{VaultFault}
use Rattle.cv_vault.specs.declared.vault.VaultFault.TheVariants.{Failed, NoMemory}

-- a whole file, or none
abbrev pub File : Type 0
File = Option (List ℕ)

-- which whole file each name has
abbrev pub Files : Type 0
Files = Name → File

-- a settled name is left by a crash as it is; a torn one was written since the last sync; a moved one was renamed or
-- removed since then, and had this file before
pub data Mark : Type 0 where
  Settled : Mark
  Torn : Mark
  Moved : (before : File) → Mark

-- what stands at a name now, and what a crash may do to it
pub record Slot : Type 0 where
  pub now : File
  pub mark : Mark

abbrev pub Disk : Type 0
Disk = Name → Slot

-- a crash may leave this file where that file stands under that mark
abbrev pub LeftAt : File → Mark → File → Type 0
LeftAt now Settled f = f ≡ now
LeftAt now Torn f = Unit {0}
LeftAt now (Moved before) f = (f ≡ before) ⊎ (f ≡ now)

-- a crash may leave this file at the slot
abbrev pub May : Slot → File → Type 0
May s f = LeftAt s.now s.mark f

-- a crash may leave these files, each name by itself
abbrev pub Image : Disk → Files → Type 0
Image d f = (n : Name) → May (d n) (f n)

-- the same of a disk that may not be told
abbrev pub ImageOf : Option Disk → Files → Type 0
ImageOf None f = Unit {0}
ImageOf (Some d) f = Image d f

abbrev pub is_settled : Mark → Bool
is_settled Settled = true
is_settled Torn = false
is_settled (Moved before) = false

-- each name is settled
abbrev pub IsCalm : Disk → Type 0
IsCalm d = (n : Name) → (d n).mark ≡ Settled

abbrev pub slot : File → Mark → Slot
slot f m = record { now = f; mark = m }

-- the disk with another slot at a name
abbrev pub with_slot : Disk → Name → Slot → Disk
with_slot d n s q = if same_name q n then s else d q

-- files that all are settled
abbrev pub settled : Files → Disk
settled f n = slot (f n) Settled

-- the files as they stand now
abbrev pub files_now : Disk → Files
files_now d n = (d n).now

-- the mark of a name that is renamed or removed, or that a rename comes to: whether all names of the call were settled,
-- and the file that stood there
abbrev pub moved : Bool → File → Mark
moved true before = Moved before
moved false before = Torn

abbrev pub both_settled : Disk → Name → Name → Bool
both_settled d from to = is_settled (d from).mark && is_settled (d to).mark

-- a rename that was made
abbrev pub renamed : Disk → Name → Name → Disk
renamed d from to =
    with_slot (with_slot d from (slot None (moved (both_settled d from to) (d from).now)))
    to (slot (d from).now (moved (both_settled d from to) (d to).now))

-- a rename that wasn't made, and leaves its names as unsure
abbrev pub unrenamed : Disk → Name → Name → Disk
unrenamed d from to =
    with_slot (with_slot d from (slot (d from).now (moved (both_settled d from to) (d from).now)))
    to (slot (d to).now (moved (both_settled d from to) (d to).now))

-- a removal that was made
abbrev pub removed : Disk → Name → Disk
removed d n = with_slot d n (slot None (moved (is_settled (d n).mark) (d n).now))

-- a removal that wasn't made, and leaves its name as unsure
abbrev pub unremoved : Disk → Name → Disk
unremoved d n = with_slot d n (slot (d n).now (moved (is_settled (d n).mark) (d n).now))

-- a file that was written and not synced
abbrev pub written : Disk → Name → File → Disk
written d n f = with_slot d n (slot f Torn)

abbrev pub synced : Disk → Disk
synced d = settled (files_now d)

-- the disk d' after a call that failed and was to change the disk d, where the file that it takes is there: the change was made, or it wasn't
pub data MayChange (file : File) (d made unmade d' : Disk) : Type 0 where
  Absent : (absent : file ≡ None) (same : d' ≡ d) → MayChange file d made unmade d'
  Made : (present : IsSome file) (is : d' ≡ made) → MayChange file d made unmade d'
  Unmade : (present : IsSome file) (is : d' ≡ unmade) → MayChange file d made unmade d'

-- What each call answers, and what it makes of the disk in every answer.

abbrev pub Reads : Name → Result (Option (List ℕ)) VaultFault → Disk → Disk → Type 0
Reads n (Ok file) d d' = (d' ≡ d) × (file ≡ (d n).now)
Reads n (Err e) d d' = d' ≡ d

abbrev pub Measures : Name → Result (Option ℕ) VaultFault → Disk → Disk → Type 0
Measures n (Ok len) d d' = (d' ≡ d) × (len ≡ option_map length (d n).now)
Measures n (Err e) d d' = d' ≡ d

-- the names that have a file and begin so, in ascending order, each once
pub record IsListing (d : Disk) (prefix : Name) (names : List Name) : Type 0 where
  pub ascending : IsStrictlySortedBy bytes_cmp names
  pub exact : (n : Name) → Contains names n ↔ (IsTrue (starts_with nat_eq n prefix) × IsSome (d n).now)

abbrev pub Lists : Name → {Z : Type 0} → Result (Vec Name Z) VaultFault → Disk → Disk → Type 0
Lists prefix (Ok names) d d' = (d' ≡ d) × IsListing d prefix names.items
Lists prefix (Err e) d d' = d' ≡ d

abbrev pub Writes : Name → List ℕ → {X : Type 0} → Result X VaultFault → Disk → Disk → Type 0
Writes n bytes (Ok x) d d' = d' ≡ written d n (Some bytes)
Writes n bytes (Err Failed) d d' = (any : File) × (d' ≡ written d n any)
Writes n bytes (Err NoMemory) d d' = d' ≡ d

abbrev pub Renames : Name → Name → Result Bool VaultFault → Disk → Disk → Type 0
Renames from to (Ok true) d d' = IsSome (d from).now × (d' ≡ renamed d from to)
Renames from to (Ok false) d d' = ((d from).now ≡ None) × (d' ≡ d)
Renames from to (Err Failed) d d' = MayChange (d from).now d (renamed d from to) (unrenamed d from to) d'
Renames from to (Err NoMemory) d d' = d' ≡ d

abbrev pub Removes : Name → Result Bool VaultFault → Disk → Disk → Type 0
Removes n (Ok true) d d' = IsSome (d n).now × (d' ≡ removed d n)
Removes n (Ok false) d d' = ((d n).now ≡ None) × (d' ≡ d)
Removes n (Err Failed) d d' = MayChange (d n).now d (removed d n) (unremoved d n) d'
Removes n (Err NoMemory) d d' = d' ≡ d

abbrev pub Syncs : {X : Type 0} → Result X VaultFault → Disk → Disk → Type 0
Syncs (Ok x) d d' = d' ≡ synced d
Syncs (Err e) d d' = d' ≡ d
