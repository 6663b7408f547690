-- A table whose names are all settled.
use Rattle.std.proofs.Common.{◌≡◌, ◌≢◌, ◌⊎◌, inl, inr, ℕ, suc, ◌+◌, ◌<◌, ◌==◌, get_or, set, arith, Bool, true, false, not, ◌&&◌, ◌||◌, cond, List, Vec, [], ◌∷◌, ◌++◌, map, length, length-set, get_or-set_other, refl, ap, subst, sym, ◌∙◌}
use Rattle.std.specs.Vec.{vec_capacity}
use Rattle.std.specs.List.{All, Contains, list_all}
use Rattle.std.specs.Prelude.{sum, count_by}
use Rattle.std.proofs.lemmas.Bool.{or_parts}
use Rattle.std.proofs.lemmas.List.{get_or-set_same, length-map}
use Rattle.std.proofs.Math.Seq.{map-set_same}
use Rattle.std.proofs.lemmas.List.Sums.{sum-map, sum_by-cons}
use Rattle.std.proofs.lemmas.Bool.Decides.{nat_tests}
use Rattle.std.proofs.lemmas.List.Elements.{All-head, All-tail, All-map, All-weaker, All-from_get_or}
use Rattle.cv_base.proofs.Laws.{same_or_other}
use Rattle.cv_vault.specs.Names.{Name, same_name}
use Rattle.cv_vault.specs.Disk as disk
use Rattle.cv_vault.specs.Disk.{Slot, slot, is_settled, synced}
use Rattle.cv_vault.specs.Events.{NamedSlot, file_count, any_unsettled}
use Rattle.cv_vault.specs.EventsInner.{disk_of, first_disk, has_file}
use Rattle.cv_vault.specs.Events as event
use Rattle.cv_vault.specs.Places.{file_in, mark_in, slot_in}
use Rattle.cv_vault.specs.PlacesInner.{is_settled_place}
use Rattle.cv_vault.specs.Table.{Rows, name_in, entries_of}
use Rattle.cv_vault.specs.TableInner.{names_in, settled_entry, settled_each, entry_at, any_entry, table_disk, IsEntryIn, IsTable}
use Rattle.cv_vault.specs.IndexedInner.{rows_of, IsIndexed, AreUnsettled}
use Rattle.cv_vault.specs.declared.place.Place.{Place}
use Rattle.cv_vault.specs.declared.place.PlaceMark.{PlaceMark}
use Rattle.cv_vault.specs.declared.place.PlaceMark.TheVariants as mark
use Rattle.cv_vault.specs.declared.table.Entry.{Entry}
use Rattle.cv_vault.specs.declared.table.Table.TheInside.{Inside}
use Rattle.cv_vault.specs.declared.table.Change.TheVariants.{Settles}
use Rattle.cv_vault.proofs.Reading.{resolved}
use Rattle.cv_vault.proofs.Steps.{settled_in, slot_at}
use Rattle.cv_vault.proofs.Unsettled.{is_open, as_one, unsettled_none, Contains-rest}
use Rattle.cv_vault.proofs.Changing.{Records}

calm_slot : (s : Slot) → not (is_settled s.mark) ≡ false → s ≡ slot s.now disk.Settled
calm_slot s h = by s.mark h
  where
    by : (m : disk.Mark) → not (is_settled m) ≡ false → slot s.now m ≡ slot s.now disk.Settled
    by disk.Settled h = refl
    by disk.Torn h = cc
    by (disk.Moved before) h = cc

pub calm_at : (es : List NamedSlot) → any_unsettled es ≡ false → (n : Name) → disk_of es n ≡ slot (disk_of es n).now disk.Settled
calm_at [] h n = refl
calm_at (e ∷ es) h n =
    let u = or_parts (not (is_settled e.stands.mark)) (any_unsettled es) h in
    elim (same_name n e.name) as (λ b. cond b e.stands (disk_of es n) ≡ slot (cond b e.stands (disk_of es n)).now disk.Settled) [ true ↦ calm_slot e.stands u.0 | false ↦ calm_at es u.1 n ]

pub calm_disk : (es : List NamedSlot) → any_unsettled es ≡ false → disk_of es ≡ synced (disk_of es)
calm_disk es h = λ i n. calm_at es h n i

module _ (names : List Name) (contents : List (List ℕ)) where
  pub calm_is : (es : List Entry) → list_all (λ (e : Entry). is_settled_place e.place) es ≡ not (any_unsettled (resolved names contents es))
  calm_is [] = refl
  calm_is (e ∷ es) = rw (settled_in contents e.place.mark) (by (is_settled (mark_in contents e.place.mark)) (calm_is es))
    where
      by : (b : Bool) → list_all (λ (e : Entry). is_settled_place e.place) es ≡ not (any_unsettled (resolved names contents es))
          → (b && list_all (λ (e : Entry). is_settled_place e.place) es) ≡ not (not b || any_unsettled (resolved names contents es))
      by true h = h
      by false h = refl

  names_settled : (es : List Entry) → names_in names (map settled_entry es) ≡ names_in names es
  names_settled [] = refl
  names_settled (e ∷ es) = ap (λ ns. name_in names e.name ∷ ns) (names_settled es)

  first_settled : (es : List Entry) (n : Name) → first_disk (resolved names contents (map settled_entry es)) n ≡ first_disk (resolved names contents es) n
  first_settled [] n = refl
  first_settled (e ∷ es) n =
      elim (same_name n (name_in names e.name)) as (λ b. slot (cond b (file_in contents e.first) (first_disk (resolved names contents (map settled_entry es)) n).now) disk.Settled ≡ slot (cond b (file_in contents e.first) (first_disk (resolved names contents es) n).now) disk.Settled) [
        | true ↦ refl
        | false ↦ first_settled es n
      ]

  disk_settled : (es : List Entry) (n : Name) → disk_of (resolved names contents (map settled_entry es)) n ≡ synced (disk_of (resolved names contents es)) n
  disk_settled [] n = refl
  disk_settled (e ∷ es) n =
      elim (same_name n (name_in names e.name)) as (λ b. cond b (slot_in contents (settled_entry e).place) (disk_of (resolved names contents (map settled_entry es)) n) ≡ slot (cond b (slot_in contents e.place) (disk_of (resolved names contents es) n)).now disk.Settled) [
        | true ↦ refl
        | false ↦ disk_settled es n
      ]

  any_settled : (es : List Entry) → any_unsettled (resolved names contents (map settled_entry es)) ≡ false
  any_settled [] = refl
  any_settled (e ∷ es) = any_settled es

  files_settled : (es : List Entry) → map (λ (e : NamedSlot). has_file e.stands) (resolved names contents (map settled_entry es)) ≡ map (λ (e : NamedSlot). has_file e.stands) (resolved names contents es)
  files_settled [] = refl
  files_settled (e ∷ es) = ap (λ ns. has_file (slot_in contents e.place) ∷ ns) (files_settled es)

-- Settling each of the entries that aren't settled settles all.

abbrev pub IsCalmEntry : Entry → Type 0
IsCalmEntry e = is_settled_place e.place ≡ true

calm_entry : (e : Entry) → IsCalmEntry e → settled_entry e ≡ e
calm_entry e h = by e.place.mark h
  where
    by : (m : PlaceMark) → is_settled (mark_in [] m) ≡ true → settled_entry e ≡ record e { place = record { now = e.place.now; mark = m } }
    by mark.Settled h = refl
    by mark.Torn h = cc
    by (mark.Moved before) h = cc

calm_entries : (es : List Entry) → All IsCalmEntry es → map settled_entry es ≡ es
calm_entries [] h = refl
calm_entries (e ∷ es) h = let a = calm_entry e (All-head IsCalmEntry e es h) in let b = calm_entries es (All-tail IsCalmEntry e es h) in cc

abbrev pub settled_one : ℕ → List Entry → List Entry
settled_one k es = set es k (settled_entry (get_or es k any_entry))

pub length-settled : (ks : List ℕ) (es : List Entry) → length (settled_each ks es) ≡ length es
length-settled [] es = refl
length-settled (k ∷ ks) es = length-settled ks (settled_one k es) ∙ length-set es k (settled_entry (get_or es k any_entry))

settled_at : (ks : List ℕ) (es : List Entry) (i : ℕ) → i < length es → Contains ks i ⊎ IsCalmEntry (get_or es i any_entry) → IsCalmEntry (get_or (settled_each ks es) i any_entry)
settled_at [] es i lt (inl c) = absurd (let l = c.1 in omega arith)
settled_at [] es i lt (inr h) = h
settled_at (k ∷ ks) es i lt h =
    let x : Entry = settled_entry (get_or es k any_entry) in
    let lt' : i < length (settled_one k es) = rw (length-set es k x) lt in
    elim (same_or_other i k) [
      | inl e ↦ settled_at ks (settled_one k es) i lt' (inr (subst IsCalmEntry (sym (ap (λ j. get_or (settled_one k es) j any_entry) e ∙ get_or-set_same es k x any_entry (subst (λ j. j < length es) e lt))) refl))
      | inr ne ↦ settled_at ks (settled_one k es) i lt' (elim h [
        | inl c ↦ inl (Contains-rest k ks i (λ e. ne (sym e)) c)
        | inr was ↦ inr (subst IsCalmEntry (sym (get_or-set_other es k i x any_entry ne)) was)
      ])
    ]

settled_again : (ks : List ℕ) (es : List Entry) → map settled_entry (settled_each ks es) ≡ map settled_entry es
settled_again [] es = refl
settled_again (k ∷ ks) es = settled_again ks (settled_one k es) ∙ map-set_same settled_entry es k (settled_entry (get_or es k any_entry)) any_entry refl

settled_or_not : (p : Place) → (is_settled_place p ≡ true) ⊎ (is_settled_place p ≡ false)
settled_or_not p = by (is_settled_place p) refl
  where
    by : (b : Bool) → is_settled_place p ≡ b → (is_settled_place p ≡ true) ⊎ (is_settled_place p ≡ false)
    by true e = inl e
    by false e = inr e

pub each_is_all : {Y : Type 0} (us : Vec ℕ Y) (es : List Entry) → AreUnsettled us es → settled_each us.items es ≡ map settled_entry es
each_is_all us es u = sym (calm_entries (settled_each us.items es) (All-from_get_or IsCalmEntry (settled_each us.items es) any_entry calm)) ∙ settled_again us.items es
  where
    calm : (i : ℕ) → i < length (settled_each us.items es) → IsCalmEntry (get_or (settled_each us.items es) i any_entry)
    calm i lt =
        let within : i < length es = subst (λ k. i < k) (length-settled us.items es) lt in
        settled_at us.items es i within (elim (settled_or_not (get_or es i any_entry).place) [ inl h ↦ inr h | inr loose ↦ inl (u.each i within loose) ])

-- there are none exactly where each entry is settled
pub calm_listed : {Y : Type 0} (us : Vec ℕ Y) (es : List Entry) → AreUnsettled us es → (length us.items == 0) ≡ list_all (λ (e : Entry). is_settled_place e.place) es
calm_listed us es u = ap (λ k. k == 0) u.count ∙ none es
  where
    zero_more : (n : ℕ) → (0 + n == 0) ≡ (n == 0)
    zero_more n = let e : 0 + n ≡ n = omega arith in ap (λ k. k == 0) e

    suc_not_zero : (n : ℕ) → (1 + n == 0) ≡ false
    suc_not_zero n = grind (arith, nat_tests)

    none : (xs : List Entry) → (count_by is_open xs == 0) ≡ list_all (λ (e : Entry). is_settled_place e.place) xs
    none [] = refl
    none (x ∷ xs) = rw (sum_by-cons as_one x xs) (by (is_settled_place x.place) (none xs))
      where
        by : (b : Bool) → (count_by is_open xs == 0) ≡ list_all (λ (e : Entry). is_settled_place e.place) xs → (cond (not b) 1 0 + count_by is_open xs == 0) ≡ (b && list_all (λ (e : Entry). is_settled_place e.place) xs)
        by true h = zero_more (count_by is_open xs) ∙ h
        by false h = suc_not_zero (count_by is_open xs)

-- t' is t with every name settled, and the change
pub record SettlesAll (t t' : Inside) : Type 0 where
  pub names : t'.names.items ≡ t.names.items
  pub contents : t'.contents.items ≡ t.contents.items
  pub entries : t'.entries.items ≡ map settled_entry t.entries.items
  pub numbers : t'.numbers ≡ t.numbers
  pub unsettled : t'.unsettled.items ≡ []
  pub room : vec_capacity t'.unsettled ≡ vec_capacity t.unsettled
  pub changes : t'.changes.items ≡ t.changes.items ++ Settles ∷ []

settled_within : (names contents : ℕ) (e : Entry) → IsEntryIn names contents e → IsEntryIn names contents (settled_entry e)
settled_within names contents e h = record { name = h.name; first = h.first; place = record { file = h.place.file; mark = tt } }

pub records_settled : (t t' : Inside) → IsIndexed t → SettlesAll t t' → Records t t' Settles event.Settles
records_settled t t' is h =
    let names = t.names.items in
    let contents = t.contents.items in
    let es = t.entries.items in
    record {
      names = h.names;
      contents = h.contents;
      entries = rw h.entries (All-map (IsEntryIn (length names) (length contents)) settled_entry es (All-weaker _ _ (settled_within (length names) (length contents)) es is.table.entries));
      names_same = rw h.entries (names_settled names contents es);
      numbers = h.numbers;
      unsettled = unsettled_none t'.unsettled t'.entries.items h.unsettled (rw h.entries (All-map IsCalmEntry settled_entry es (λ k d lt. refl)))
          (rw (h.entries, h.room, length-map es settled_entry) is.unsettled.room);
      first = rw h.entries (λ i n. first_settled names contents es n i);
      disk = rw h.entries (λ i n. disk_settled names contents es n i);
      changes = h.changes;
      within = tt;
      event = refl;
    }

pub any_unsettled-settled : (t t' : Inside) → SettlesAll t t' → any_unsettled (entries_of (rows_of t')) ≡ false
any_unsettled-settled t t' h = rw (h.names, h.contents, h.entries) (any_settled t.names.items t.contents.items t.entries.items)

pub file_count-settled : (t t' : Inside) → SettlesAll t t' → file_count (entries_of (rows_of t')) ≡ file_count (entries_of (rows_of t))
file_count-settled t t' h =
    rw (h.names, h.contents, h.entries) (sym (sum-map (λ (e : NamedSlot). has_file e.stands) (resolved t.names.items t.contents.items (map settled_entry t.entries.items)))
    ∙ ap sum (files_settled t.names.items t.contents.items t.entries.items) ∙ sum-map (λ (e : NamedSlot). has_file e.stands) (entries_of (rows_of t)))

-- an entry that isn't settled
pub record Unsettled (names : List Name) (contents : List (List ℕ)) (es : List Entry) : Type 0 where
  pub place : ℕ
  pub within : place < length es
  pub mark : is_settled (slot_in contents (get_or es place any_entry).place).mark ≡ false

unsettled_entry : (names : List Name) (contents : List (List ℕ)) (es : List Entry) → any_unsettled (resolved names contents es) ≡ true → Unsettled names contents es
unsettled_entry names contents [] h = cc
unsettled_entry names contents (e ∷ es) h = by (is_settled (mark_in contents e.place.mark)) refl (unsettled_entry names contents es)
  where
    by : (b : Bool) → is_settled (mark_in contents e.place.mark) ≡ b → (any_unsettled (resolved names contents es) ≡ true → Unsettled names contents es) → Unsettled names contents (e ∷ es)
    by true k rest = let u = rest (rw k at h) in record { place = suc u.place; within = (let w = u.within in omega arith); mark = u.mark }
    by false k rest = record { place = 0; within = omega arith; mark = k }

-- a sync of a disk with an unsettled name changes it
pub unsettled_differs : (t : Rows) → IsTable t → any_unsettled (entries_of t) ≡ true → (n : Name) × (synced (table_disk t) n ≢ table_disk t n)
unsettled_differs t is h =
    let u = unsettled_entry t.names t.contents t.entries h in
    let n : Name = name_in t.names (entry_at t u.place).name in
    (n, λ e. (let m : disk.Settled ≡ (slot_in t.contents (entry_at t u.place).place).mark = ap (λ (s : Slot). s.mark) (e ∙ slot_at t n u.place is (u.within, refl)) in let k = ap is_settled m in let f = u.mark in cc))
