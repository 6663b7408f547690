-- A disk in memory: the names that were ever used, and the record of the changes since the record began.
use Rattle.std.specs.Prelude.{◌≡◌, ◌≢◌, ℕ, ◌≤◌, Bool, List, [], ◌∷◌, length, take, not, is_some, count_by, if◌then◌else◌}
use Rattle.std.specs.List.{list_any}
use Rattle.std.specs.declared.option.Option.TheVariants.{None, Some}
use Rattle.cv_vault.specs.Names.{Name, same_name}
use Rattle.cv_vault.specs.Disk.{File, Files, Slot, Disk, Image, Torn, is_settled, both_settled, moved, slot, with_slot, synced}

-- a name, the file that it had when the record began, and what stands there now
pub record NamedSlot : Type 0 where
  pub name : Name
  pub first : File
  pub stands : Slot

-- a change of a disk: one name or two together, or a sync
pub data Event : Type 0 where
  Puts : (name : Name) (stands : Slot) → Event
  PutsTwo : (name : Name) (stands : Slot) (other : Name) (other_stands : Slot) → Event
  Settles : Event

abbrev pub after : Event → Disk → Disk
after (Puts n s) d = with_slot d n s
after (PutsTwo n s m t) d = with_slot (with_slot d n s) m t
after Settles d = synced d

-- the disk after these changes
abbrev pub replay : List Event → Disk → Disk
replay [] d = d
replay (e ∷ es) d = replay es (after e d)

-- A where some name or its state is another on the disk d' than on d, and B where none is
pub data IfDiffers (d d' : Disk) (A B : Type 0) : Type 0 where
  Differs : (name : Name) (other : d' name ≢ d name) (a : A) → IfDiffers d d' A B
  Same : (same : d' ≡ d) (b : B) → IfDiffers d d' A B

-- what a list of pairs has at a name, where this stands for what it hasn't
abbrev pub value_at : {X : Type 0} → X → List (Name × X) → Name → X
value_at absent [] n = absent
value_at absent (p ∷ ps) n = if same_name n p.0 then p.1 else value_at absent ps n

abbrev pub any_unsettled : List NamedSlot → Bool
any_unsettled es = list_any (λ e. not (is_settled e.stands.mark)) es

-- how many names have a file
abbrev pub file_count : List NamedSlot → ℕ
file_count es = count_by (λ e. is_some e.stands.now) es

-- A write, a rename and a removal over a disk, whether they are made or not.

abbrev pub write_of : Disk → Name → List ℕ → Bool → Event
write_of d n bytes made = Puts n (slot (if made then Some bytes else (d n).now) Torn)

abbrev pub rename_of : Disk → Name → Name → Bool → Event
rename_of d from to made =
    PutsTwo from (slot (if made then None else (d from).now) (moved (both_settled d from to) (d from).now))
    to (slot (if made then (d from).now else (d to).now) (moved (both_settled d from to) (d to).now))

abbrev pub removal_of : Disk → Name → Bool → Event
removal_of d n made = Puts n (slot (if made then None else (d n).now) (moved (is_settled (d n).mark) (d n).now))

-- what a crash at some moment since that many changes might have left, by the record of changes
pub record LeftBy (past : List Event) (first : Disk) (m : ℕ) (f : Files) : Type 0 where
  pub moment : ℕ
  pub since : m ≤ moment
  pub until : moment ≤ length past
  pub image : Image (replay (take moment past) first) f
