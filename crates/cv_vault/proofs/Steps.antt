-- The calls of a table, as changes of its disk.
use Rattle.std.proofs.Common.{◌≡◌, ◌≢◌, ◌⊎◌, inl, inr, ℕ, ◌+◌, ◌<◌, length, subst, Bool, true, false, cond, get_or, ◌&&◌, is_some, List, [], refl, ap, sym, ◌∙◌}
use Rattle.std.specs.Prelude.{IsSome}
use Rattle.std.specs.declared.option.Option.{Option}
use Rattle.std.specs.declared.option.Option.TheVariants.{None, Some}
use Rattle.cv_vault.specs.Names.{Name}
use Rattle.cv_vault.specs.Disk.{Disk, File, Slot, slot, with_slot, is_settled, moved, Torn}
use Rattle.cv_vault.specs.Events.{Event, Puts, PutsTwo, Differs, Same, after, write_of, rename_of, removal_of}
use Rattle.cv_vault.specs.Places.{file_in, mark_in, slot_in}
use Rattle.cv_vault.specs.PlacesInner.{moved_place, is_settled_place}
use Rattle.cv_vault.specs.Table.{Rows, name_in}
use Rattle.cv_vault.specs.TableInner.{any_entry, entry_at, IsEntryOf, IsTable, Stays, Adds, Makes, table_disk}
use Rattle.cv_vault.specs.declared.place.Place.{Place}
use Rattle.cv_vault.specs.declared.place.PlaceMark.{PlaceMark}
use Rattle.cv_vault.specs.declared.place.PlaceMark.TheVariants as mark
use Rattle.cv_vault.specs.declared.table.Entry.{Entry}
use Rattle.cv_vault.specs.declared.table.Change.{Change}
use Rattle.cv_vault.proofs.Names.{here, elsewhere, unchanged}
use Rattle.cv_vault.proofs.Reading.{slot_found}
use Rattle.cv_vault.proofs.Changing.{stays_then}

adds_after : (e : Event) (t u v : Rows) → Stays t u → Adds e u v → Adds e t v
adds_after e t u v a b = record {
  disk = b.disk ∙ ap (after e) a.disk;
  first = b.first ∙ a.first;
  past = b.past ∙ (let p = a.past in cc);
  len = b.len ∙ ap (λ (cs : List Change). length cs + 1) a.changes;
  room = b.room ∙ a.room;
}

pub makes_after : (e : Event) (t u v : Rows) → Stays t u → Makes e u v → Makes e t v
makes_after e t u v a (Differs n h b) = Differs n (subst (λ (d : Disk). after e d n ≢ d n) a.disk h) (adds_after e t u v a b)
makes_after e t u v a (Same h b) = Same (subst (λ (d : Disk). after e d ≡ d) a.disk h) (stays_then t u v a b)

pub slot_at : (t : Rows) (n : Name) (i : ℕ) → IsTable t → IsEntryOf t n i → table_disk t n ≡ slot_in t.contents (entry_at t i).place
slot_at t n i is h = slot_found t.names t.contents t.entries i any_entry n is.apart h.0 h.1

pub present : (contents : List (List ℕ)) (k : Option ℕ) → is_some k ≡ true → IsSome (file_in contents k)
present contents None e = e
present contents (Some i) e = e

pub missing : (contents : List (List ℕ)) (k : Option ℕ) → is_some k ≡ false → file_in contents k ≡ None
missing contents None e = refl
missing contents (Some i) e = cc

file_chosen : (contents : List (List ℕ)) (made : Bool) (j k : Option ℕ) → file_in contents (cond made j k) ≡ cond made (file_in contents j) (file_in contents k)
file_chosen contents true j k = refl
file_chosen contents false j k = refl

moved_slot : (contents : List (List ℕ)) (p : Place) (k : Option ℕ) (all_settled : Bool) → slot_in contents (moved_place p k all_settled) ≡ slot (file_in contents k) (moved all_settled (file_in contents p.now))
moved_slot contents p k true = refl
moved_slot contents p k false = refl

-- a place that was renamed or removed isn't settled
pub moved_torn : (p q : Place) (k : Option ℕ) (all_settled : Bool) → q ≡ moved_place p k all_settled → is_settled_place q ≡ false
moved_torn p q k true e = rw e refl
moved_torn p q k false e = rw e refl

pub settled_in : (contents : List (List ℕ)) (m : PlaceMark) → is_settled (mark_in [] m) ≡ is_settled (mark_in contents m)
settled_in contents mark.Settled = refl
settled_in contents mark.Torn = refl
settled_in contents (mark.Moved before) = refl

-- A change is recorded where another slot comes to a name.

stays_itself : (t : Rows) → Stays t t
stays_itself t = record { disk = refl; first = refl; past = refl; changes = refl; room = refl; files = refl; unsettled = refl }

-- the name of an entry
abbrev pub name_of : Rows → ℕ → Name
name_of t i = name_in t.names (entry_at t i).name

-- what stands at an entry
abbrev pub slot_of : Rows → ℕ → Slot
slot_of t i = slot_in t.contents (entry_at t i).place

stands_at : (t : Rows) (i : ℕ) → IsTable t → i < length t.entries → table_disk t (name_of t i) ≡ slot_of t i
stands_at t i is lt = slot_at t (name_of t i) i is (lt, refl)

pub makes_none : (t : Rows) (i : ℕ) (s : Slot) → IsTable t → i < length t.entries → s ≡ slot_of t i → Makes (Puts (name_of t i) s) t t
makes_none t i s is lt e = Same (unchanged (table_disk t) (name_of t i) s (e ∙ sym (stands_at t i is lt))) (stays_itself t)

pub makes_put : (t t' : Rows) (i : ℕ) (s : Slot) → IsTable t → i < length t.entries → s ≢ slot_of t i → Adds (Puts (name_of t i) s) t t' → Makes (Puts (name_of t i) s) t t'
makes_put t t' i s is lt other a = Differs (name_of t i) (λ e. other (sym (here (table_disk t) (name_of t i) s) ∙ e ∙ stands_at t i is lt)) a

pub makes_neither : (t : Rows) (i j : ℕ) (s r : Slot) → IsTable t → i < length t.entries → j < length t.entries → s ≡ slot_of t i → r ≡ slot_of t j
    → Makes (PutsTwo (name_of t i) s (name_of t j) r) t t
makes_neither t i j s r is lt lt' e f =
    let d = table_disk t in
    let one : with_slot d (name_of t i) s ≡ d = unchanged d (name_of t i) s (e ∙ sym (stands_at t i is lt)) in
    Same (ap (λ (x : Disk). with_slot x (name_of t j) r) one ∙ unchanged d (name_of t j) r (f ∙ sym (stands_at t j is lt'))) (stays_itself t)

pub makes_two : (t t' : Rows) (i j : ℕ) (s r : Slot) → IsTable t → i < length t.entries → j < length t.entries → name_of t i ≢ name_of t j → (s ≢ slot_of t i) ⊎ (r ≢ slot_of t j)
    → Adds (PutsTwo (name_of t i) s (name_of t j) r) t t' → Makes (PutsTwo (name_of t i) s (name_of t j) r) t t'
makes_two t t' i j s r is lt lt' apart other a =
    let d = table_disk t in
    elim other [
      | inl ne ↦ Differs (name_of t i) (λ e. ne (sym (here d (name_of t i) s) ∙ sym (elsewhere (with_slot d (name_of t i) s) (name_of t j) r (name_of t i) apart) ∙ e ∙ stands_at t i is lt)) a
      | inr ne ↦ Differs (name_of t j) (λ e. ne (sym (here (with_slot d (name_of t i) s) (name_of t j) r) ∙ e ∙ stands_at t j is lt')) a
    ]

-- the events by what stands there
abbrev pub write_by : Name → List ℕ → Bool → Slot → Event
write_by n bytes made s = Puts n (slot (cond made (Some bytes) s.now) Torn)

abbrev pub removal_by : Name → Bool → Slot → Event
removal_by n made s = Puts n (slot (cond made None s.now) (moved (is_settled s.mark) s.now))

abbrev pub rename_by : Name → Name → Bool → Slot → Slot → Event
rename_by from to made s t =
    PutsTwo from (slot (cond made None s.now) (moved (is_settled s.mark && is_settled t.mark) s.now)) to (slot (cond made s.now t.now) (moved (is_settled s.mark && is_settled t.mark) t.now))

pub removal_is : (t : Rows) (n : Name) (i : ℕ) (made : Bool) (p : Place) → IsTable t → IsEntryOf t n i → p ≡ moved_place (entry_at t i).place (cond made None (entry_at t i).place.now) (is_settled_place (entry_at t i).place)
    → Puts (name_in t.names (entry_at t i).name) (slot_in t.contents p) ≡ removal_of (table_disk t) n made
removal_is t n i made p is h e =
    let old : Place = (entry_at t i).place in
    let contents : List (List ℕ) = t.contents in
    ap (λ m. Puts m (slot_in contents p)) h.1
    ∙ ap (λ x. Puts n (slot_in contents x)) e
    ∙ ap (Puts n) (moved_slot contents old (cond made None old.now) (is_settled_place old)
    ∙ ap (λ f. slot f (moved (is_settled_place old) (file_in contents old.now))) (file_chosen contents made None old.now)
    ∙ ap (λ b. slot (cond made None (file_in contents old.now)) (moved b (file_in contents old.now))) (settled_in contents old.mark))
    ∙ ap (removal_by n made) (sym (slot_at t n i is h))

-- what stands at one name of a rename afterwards
moved_slot_of : (contents : List (List ℕ)) (made : Bool) (p : Place) (all_settled : Bool) (r : Place) (j k : Option ℕ) → r ≡ moved_place p (cond made j k) all_settled
    → slot_in contents r ≡ slot (cond made (file_in contents j) (file_in contents k)) (moved all_settled (file_in contents p.now))
moved_slot_of contents made p all_settled r j k e =
    ap (slot_in contents) e
    ∙ moved_slot contents p (cond made j k) all_settled
    ∙ ap (λ f. slot f (moved all_settled (file_in contents p.now))) (file_chosen contents made j k)

-- a rename from one name of a table to another
pub rename_is : (t : Rows) (from to : Name) (i j : ℕ) (made : Bool) (p q : Place) → IsTable t → IsEntryOf t from i → IsEntryOf t to j
    → p ≡ moved_place (entry_at t i).place (cond made None (entry_at t i).place.now) (is_settled_place (entry_at t i).place && is_settled_place (entry_at t j).place)
    → q ≡ moved_place (entry_at t j).place (cond made (entry_at t i).place.now (entry_at t j).place.now) (is_settled_place (entry_at t i).place && is_settled_place (entry_at t j).place)
    → PutsTwo (name_in t.names (entry_at t i).name) (slot_in t.contents p) (name_in t.names (entry_at t j).name) (slot_in t.contents q) ≡ rename_of (table_disk t) from to made
rename_is t from to i j made p q is h k e f =
    let contents : List (List ℕ) = t.contents in
    let a : Place = (entry_at t i).place in
    let b : Place = (entry_at t j).place in
    ap (λ m. PutsTwo m (slot_in contents p) (name_in t.names (entry_at t j).name) (slot_in contents q)) h.1
    ∙ ap (λ m. PutsTwo from (slot_in contents p) m (slot_in contents q)) k.1
    ∙ ap (λ s. PutsTwo from s to (slot_in contents q)) (moved_slot_of contents made a (is_settled_place a && is_settled_place b) p None a.now e)
    ∙ ap (λ s. PutsTwo from (slot (cond made None (file_in contents a.now)) (moved (is_settled_place a && is_settled_place b) (file_in contents a.now))) to s) (moved_slot_of contents made b (is_settled_place a && is_settled_place b) q a.now b.now f)
    ∙ ap (λ x. rename_slots x (file_in contents a.now) (file_in contents b.now)) (ap (λ x. x && is_settled_place b) (settled_in contents a.mark) ∙ ap (λ x. is_settled (mark_in contents a.mark) && x) (settled_in contents b.mark))
    ∙ ap (λ s. rename_by from to made s (slot_in contents b)) (sym (slot_at t from i is h))
    ∙ ap (λ s. rename_by from to made (table_disk t from) s) (sym (slot_at t to j is k))
  where
    rename_slots : Bool → File → File → Event
    rename_slots all_settled f g = PutsTwo from (slot (cond made None f) (moved all_settled f)) to (slot (cond made f g) (moved all_settled g))

-- a write to a name of a table, where the contents may have grown since
pub write_is : (t u : Rows) (n bytes : Name) (i : ℕ) (made : Bool) (k : Option ℕ) → IsTable t → IsEntryOf t n i → u.names ≡ t.names → u.entries ≡ t.entries
    → file_in u.contents k ≡ cond made (Some bytes) (file_in t.contents (entry_at t i).place.now)
    → Puts (name_in u.names (entry_at u i).name) (slot_in u.contents (record { now = k; mark = mark.Torn })) ≡ write_of (table_disk t) n bytes made
write_is t u n bytes i made k is h names entries file =
    ap (λ (es : List Entry). Puts (name_in u.names (get_or es i any_entry).name) (slot_in u.contents (record { now = k; mark = mark.Torn }))) entries
    ∙ ap (λ (ns : List Name). Puts (name_in ns (entry_at t i).name) (slot_in u.contents (record { now = k; mark = mark.Torn }))) names
    ∙ ap (λ m. Puts m (slot_in u.contents (record { now = k; mark = mark.Torn }))) h.1
    ∙ ap (λ f. Puts n (slot f Torn)) file
    ∙ ap (write_by n bytes made) (sym (slot_at t n i is h))
