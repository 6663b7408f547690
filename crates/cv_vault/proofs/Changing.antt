-- Entries that change, and the disk that they stand for.
use Rattle.std.proofs.Common.{◌≡◌, ◌≢◌, ◌⊎◌, inl, inr, ℕ, ◌<◌, ◌≤◌, ◌+◌, Bool, false, not, cond, ◌||◌, List, [], ◌∷◌, ◌++◌, length, get_or, set, map, refl, ap, subst, sym, ◌∙◌, arith, length-append, length-set, get_or-set_other, add-zero}
use Rattle.std.specs.Vec.{vec_capacity}
use Rattle.std.specs.Str.{bytes_eq}
use Rattle.std.specs.BTreeMap.{get_by_text, IsOrdered}
use Rattle.std.specs.String.{string_cmp}
use Rattle.std.proofs.Math.ListN as list
use Rattle.std.proofs.Math.ListN.{get_or-append}
use Rattle.std.specs.List.{All, list_any}
use Rattle.std.specs.declared.option.Option.{Option}
use Rattle.std.specs.declared.option.Option.TheVariants.{None, Some}
use Rattle.std.proofs.lemmas.List.Elements.{All-set, All-push}
use Rattle.std.proofs.lemmas.List.{append-nil, map-set, map-append, length-map}
use Rattle.std.proofs.lemmas.List.Sums.{sum_by-set, sum_by-append}
use Rattle.std.proofs.lemmas.Option.{same_Some}
use Rattle.std.proofs.Math.Seq.{map-set_same, get_or-append_seam}
use Rattle.cv_vault.specs.Names.{Name, same_name}
use Rattle.cv_vault.specs.Disk as disk
use Rattle.cv_vault.specs.Disk.{Disk, File, Slot, slot, with_slot, is_settled, settled}
use Rattle.cv_vault.specs.Events.{NamedSlot, Event, after, replay, value_at, file_count, any_unsettled}
use Rattle.cv_vault.specs.EventsInner.{disk_of, first_disk, has_file}
use Rattle.cv_vault.specs.Events as event
use Rattle.cv_vault.specs.Places.{slot_in}
use Rattle.cv_vault.specs.PlacesInner.{IsPlaceIn}
use Rattle.cv_vault.specs.Table.{Rows, name_in, named_in, event_in, entries_of, past_of}
use Rattle.cv_vault.specs.TableInner.{names_in, any_entry, entry_at, table_disk, table_first, Lacks, IsEntryIn, IsChangeIn, Stays, Adds, AreApart}
use Rattle.cv_vault.specs.IndexedInner.{rows_of, IsIndexed, AreNumbers, AreUnsettled}
use Rattle.cv_vault.specs.declared.place.Place.{Place}
use Rattle.cv_vault.specs.declared.place.PlaceMark.TheVariants.{Settled}
use Rattle.cv_vault.specs.declared.table.Entry.{Entry}
use Rattle.cv_vault.specs.declared.table.Table.TheInside.{Inside}
use Rattle.cv_vault.specs.declared.table.Change.{Change}
use Rattle.cv_vault.specs.declared.table.Change.TheVariants.{Puts, PutsTwo}
use Rattle.cv_vault.proofs.Names.{same_or_not, bytes_eq_same, bytes_eq_other}
use Rattle.cv_vault.proofs.Values.{value_at-set, value_at-push}
use Rattle.cv_vault.proofs.Unsettled.{unsettled_pushed}
use Rattle.cv_vault.proofs.Growing.{Grows, names_grown, table_grown, stays_grown}
use Rattle.cv_vault.proofs.Reading.{pair_of, resolved, firsts-pairs, pairs_at, length-pairs, numbers_apart}

abbrev pub first_of : NamedSlot → Name × File
first_of e = (e.name, e.first)

pub replay-push : (es : List Event) (e : Event) (d : Disk) → replay (es ++ e ∷ []) d ≡ after e (replay es d)
replay-push [] e d = refl
replay-push (x ∷ es) e d = replay-push es e (after x d)

-- the entries es' are es with another slot at a name
pub record IsPut (names : List Name) (contents : List (List ℕ)) (es es' : List Entry) (n : Name) (old new : Slot) : Type 0 where
  pub names_same : names_in names es' ≡ names_in names es
  pub first : first_disk (resolved names contents es') ≡ first_disk (resolved names contents es)
  pub disk : disk_of (resolved names contents es') ≡ with_slot (disk_of (resolved names contents es)) n new
  pub files : file_count (resolved names contents es') + has_file old ≡ file_count (resolved names contents es) + has_file new

module _ (names : List Name) (contents : List (List ℕ)) where
  -- the disk with another entry of the same name
  pub set_disk : (es : List Entry) (i : ℕ) (d : Entry) (n : Name) (x : Entry) → AreApart (names_in names es) → i < length es → name_in names (get_or es i d).name ≡ n → x.name ≡ (get_or es i d).name
      → (q : Name) → disk_of (resolved names contents (set es i x)) q ≡ with_slot (disk_of (resolved names contents es)) n (slot_in contents x.place) q
  set_disk es i d n x differ lt is same q =
      let ps = map pair_of (resolved names contents es) in
      let absent : Slot = slot None disk.Settled in
      let y : Slot = slot_in contents x.place in
      let h = value_at-set absent ps i (pair_of (named_in names contents d)) y (rw (firsts-pairs names contents es) differ) (rw (length-pairs names contents es) lt) q in
      let slots : map pair_of (resolved names contents (set es i x)) ≡ set ps i (name_in names (get_or es i d).name, y) =
      (ap (map pair_of) (map-set (named_in names contents) es i x) ∙ map-set pair_of (resolved names contents es) i (named_in names contents x) ∙ ap (λ k. set ps i (name_in names k, y)) same) in
      ap (λ xs. value_at absent xs q) slots
      ∙ subst (λ (z : Name × Slot). value_at absent (set ps i (z.0, y)) q ≡ cond (same_name q z.0) y (value_at absent ps q)) (pairs_at names contents es i d) h
      ∙ ap (λ m. cond (same_name q m) y (value_at absent ps q)) is

  pub is_put : (es : List Entry) (i : ℕ) (d : Entry) (n : Name) (p : Place) → AreApart (names_in names es) → i < length es → name_in names (get_or es i d).name ≡ n
      → IsPut names contents es (set es i (record (get_or es i d) { place = p })) n (slot_in contents (get_or es i d).place) (slot_in contents p)
  is_put es i d n p differ lt is = record {
    names_same = map-set_same (λ (e : Entry). name_in names e.name) es i (record (get_or es i d) { place = p }) d refl;
    first = ap (λ ps. settled (value_at None ps)) first_pairs;
    disk = λ k q. set_disk es i d n (record (get_or es i d) { place = p }) differ lt is refl q k;
    files = rw (map-set (named_in names contents) es i (record (get_or es i d) { place = p })) count;
  }
    where
      at_old : get_or (resolved names contents es) i (named_in names contents d) ≡ named_in names contents (get_or es i d)
      at_old = list.get_or-map (named_in names contents) es i d

      first_pairs : map first_of (resolved names contents (set es i (record (get_or es i d) { place = p }))) ≡ map first_of (resolved names contents es)
      first_pairs = rw (map-set (named_in names contents) es i (record (get_or es i d) { place = p }))
          (map-set_same first_of (resolved names contents es) i (named_in names contents (record (get_or es i d) { place = p })) (named_in names contents d) (ap first_of (sym at_old)))

      count : file_count (set (resolved names contents es) i (named_in names contents (record (get_or es i d) { place = p }))) + has_file (slot_in contents (get_or es i d).place) ≡ file_count (resolved names contents es) + has_file (slot_in contents p)
      count =
          subst (λ (z : NamedSlot). file_count (set (resolved names contents es) i (named_in names contents (record (get_or es i d) { place = p }))) + has_file z.stands ≡ file_count (resolved names contents es) + has_file (slot_in contents p)) at_old
          (sum_by-set (λ (e : NamedSlot). has_file e.stands) (resolved names contents es) i (named_in names contents (record (get_or es i d) { place = p })) (named_in names contents d) (rw (length-map es (named_in names contents)) lt))

-- Another name.

any_pushed : {X : Type 0} (p : X → Bool) (xs : List X) (x : X) → p x ≡ false → list_any p (xs ++ x ∷ []) ≡ list_any p xs
any_pushed p [] x h = rw h refl
any_pushed p (y ∷ xs) x h = ap (λ b. p y || b) (any_pushed p xs x h)

module _ (names : List Name) (contents : List (List ℕ)) (es : List Entry) (new : Entry) where
  resolved_pushed : resolved names contents (es ++ new ∷ []) ≡ resolved names contents es ++ named_in names contents new ∷ []
  resolved_pushed = map-append (named_in names contents) es (new ∷ [])

  value_pushed : {X : Type 0} (f : NamedSlot → X) (absent : X) → f (named_in names contents new) ≡ absent
      → (q : Name) → value_at absent (map (λ (e : NamedSlot). (e.name, f e)) (resolved names contents (es ++ new ∷ []))) q ≡ value_at absent (map (λ (e : NamedSlot). (e.name, f e)) (resolved names contents es)) q
  value_pushed {X} f absent is q =
      let g : NamedSlot → Name × X = λ e. (e.name, f e) in
      let n : Name = name_in names new.name in
      let ps = map g (resolved names contents es) in
      let is_there : map g (resolved names contents (es ++ new ∷ [])) ≡ ps ++ (n, absent) ∷ [] =
      (ap (map g) resolved_pushed ∙ map-append g (resolved names contents es) (named_in names contents new ∷ []) ∙ ap (λ (x : X). ps ++ (n, x) ∷ []) is) in
      ap (λ xs. value_at absent xs q) is_there ∙ value_at-push absent ps n q

-- an entry that stands for no file
abbrev pub new_entry : ℕ → Entry
new_entry k = record { name = k; first = None; place = record { now = None; mark = Settled } }

before_or_at : (k n : ℕ) → k < n + 1 → (k < n) ⊎ (k ≡ n)
before_or_at k n h = grind arith

-- the numbers of names with one name more
numbers_pushed : (f f' : Name → Option ℕ) (ns : List Name) (n : Name) → AreNumbers f ns → Lacks n ns → ((q : Name) → f' q ≡ cond (bytes_eq n q) (Some (length ns)) (f q)) → AreNumbers f' (ns ++ n ∷ [])
numbers_pushed f f' ns n h lacks put q i = (forward, backward)
  where
    more : ◌≡◌ {A = ℕ} (length (ns ++ n ∷ [])) (length ns + 1)
    more = length-append ns (n ∷ [])

    at_end : get_or (ns ++ n ∷ []) (length ns) [] ≡ n
    at_end = get_or-append_seam ns n [] []

    forward : f' q ≡ Some i → (i < length (ns ++ n ∷ [])) × (get_or (ns ++ n ∷ []) i [] ≡ q)
    forward e = elim (same_or_not n q) [
      | inl is ↦
          let i_is : length ns ≡ i = same_Some _ _ (sym (put q ∙ rw (bytes_eq_same n q is) refl) ∙ e) in
          (omega (arith, more), ap (λ k. get_or (ns ++ n ∷ []) k []) (sym i_is) ∙ at_end ∙ is)
      | inr ne ↦
          let old = (h q i).0 (sym (put q ∙ rw (bytes_eq_other n q ne) refl) ∙ e) in
          (let lt = old.0 in omega (arith, more), get_or-append ns (n ∷ []) [] i old.0 ∙ old.1)
    ]

    backward : (i < length (ns ++ n ∷ [])) × (get_or (ns ++ n ∷ []) i [] ≡ q) → f' q ≡ Some i
    backward at = elim (before_or_at i (length ns) (let lt = at.0 in omega (arith, more))) [
      | inl lt ↦
          let is : get_or ns i [] ≡ q = sym (get_or-append ns (n ∷ []) [] i lt) ∙ at.1 in
          put q ∙ rw (bytes_eq_other n q (λ e. lacks i [] lt (e ∙ sym is))) ((h q i).1 (lt, is))
      | inr end ↦
          let is : n ≡ q = sym at_end ∙ ap (λ k. get_or (ns ++ n ∷ []) k []) (sym end) ∙ at.1 in
          put q ∙ rw (bytes_eq_same n q is) (ap Some (sym end))
    ]

-- t' is t with one name more and its entry, which stands for no file
pub record Pushes (t t' : Inside) (n : Name) : Type 0 where
  pub lacks : Lacks n (names_in t.names.items t.entries.items)
  pub names : t'.names.items ≡ t.names.items ++ n ∷ []
  pub contents : t'.contents.items ≡ t.contents.items
  pub entries : t'.entries.items ≡ t.entries.items ++ new_entry (length t.names.items) ∷ []
  pub ordered : IsOrdered string_cmp t'.numbers
  pub numbers : (q : Name) → get_by_text t'.numbers q ≡ cond (bytes_eq n q) (Some (length t.entries.items)) (get_by_text t.numbers q)
  pub unsettled : t'.unsettled.items ≡ t.unsettled.items
  pub room : length t.entries.items + 1 ≤ vec_capacity t'.unsettled
  pub changes : t'.changes ≡ t.changes

module _ (t t' : Inside) (n : Name) (is : IsIndexed t) (h : Pushes t t' n) where
  -- the table with the name, without its entry
  named : Inside
  named = record t { names = t'.names }

  grows : Grows t named
  unfolding named
  grows = record { names_more = n ∷ []; names = h.names; contents_more = []; contents = sym (append-nil t.contents.items); entries = refl; numbers = refl; unsettled = refl; room = omega arith; changes = refl }

  resolved_is : entries_of (rows_of t') ≡ resolved t'.names.items t.contents.items (t.entries.items ++ new_entry (length t.names.items) ∷ [])
  resolved_is = rw (h.contents, h.entries) refl

  from_named : Stays (rows_of named) (rows_of t')
  unfolding named
  from_named =
      let names = t'.names.items in
      let contents = t.contents.items in
      let es = t.entries.items in
      let new = new_entry (length t.names.items) in
      let pushed : entries_of (rows_of t') ≡ resolved names contents es ++ named_in names contents new ∷ [] = resolved_is ∙ resolved_pushed names contents es new in
      record {
        disk = ap disk_of resolved_is ∙ (λ j q. value_pushed names contents es new (λ e. e.stands) (slot None disk.Settled) refl q j);
        first = ap first_disk resolved_is ∙ (λ j q. slot (value_pushed names contents es new (λ e. e.first) None refl q j) disk.Settled);
        past = rw (h.contents, h.changes) refl;
        changes = ap (λ v. v.items) h.changes;
        room = ap (λ v. vec_capacity v) h.changes;
        files = ap file_count pushed ∙ sum_by-append (λ (e : NamedSlot). has_file e.stands) (resolved names contents es) (named_in names contents new ∷ []) ∙ add-zero (file_count (resolved names contents es));
        unsettled = ap any_unsettled pushed ∙ any_pushed (λ (e : NamedSlot). not (is_settled e.stands.mark)) (resolved names contents es) (named_in names contents new) refl;
      }

  pub stays_pushed : Stays (rows_of t) (rows_of t')
  stays_pushed = let a = stays_grown t named is grows in let b = from_named in record {
    disk = b.disk ∙ a.disk;
    first = b.first ∙ a.first;
    past = b.past ∙ a.past;
    changes = b.changes ∙ a.changes;
    room = b.room ∙ a.room;
    files = b.files ∙ a.files;
    unsettled = b.unsettled ∙ a.unsettled;
  }

  names_pushed : names_in t'.names.items t'.entries.items ≡ names_in t.names.items t.entries.items ++ n ∷ []
  names_pushed =
      let es = t.entries.items in
      let f : Entry → Name = λ e. name_in t'.names.items e.name in
      let number : name_in t'.names.items (length t.names.items) ≡ n = rw h.names (get_or-append_seam t.names.items n [] []) in
      let before : names_in t'.names.items es ≡ names_in t.names.items es = rw h.names (names_grown t.names.items t.contents.items (n ∷ []) [] es is.table.entries) in
      ap (map f) h.entries ∙ map-append f es (new_entry (length t.names.items) ∷ []) ∙ ap (λ ns. ns ++ name_in t'.names.items (length t.names.items) ∷ []) before ∙ ap (λ m. names_in t.names.items es ++ m ∷ []) number

  pub table_pushed : IsIndexed t'
  unfolding named
  table_pushed =
      let grown = table_grown t named is grows in
      let s = stays_pushed in
      let P = IsEntryIn (length t'.names.items) (length t.contents.items) in
      let numbers : AreNumbers (get_by_text t'.numbers) (names_in t'.names.items t'.entries.items) = subst (AreNumbers (get_by_text t'.numbers)) (sym names_pushed)
      (numbers_pushed (get_by_text t.numbers) (get_by_text t'.numbers) (names_in t.names.items t.entries.items) n is.numbers h.lacks
      (λ q. rw (length-map t.entries.items (λ (e : Entry). name_in t.names.items e.name)) (h.numbers q))) in
      record {
        table = record {
          entries = rw (h.contents, h.entries) (All-push P t.entries.items (new_entry (length t.names.items)) grown.table.entries
              (record { name = omega (arith, ap (λ (xs : List Name). length xs) h.names, length-append t.names.items (n ∷ [])); first = tt; place = record { file = tt; mark = tt } }));
          changes = rw (h.contents, h.changes) grown.table.changes;
          apart = numbers_apart (get_by_text t'.numbers) (names_in t'.names.items t'.entries.items) numbers;
          linked = s.disk ∙ is.table.linked ∙ (let p = s.past in let f = s.first in cc);
        };
        ordered = h.ordered;
        numbers = numbers;
        unsettled = rw h.entries (unsettled_pushed t.unsettled t'.unsettled t.entries.items (new_entry (length t.names.items)) is.unsettled refl h.unsettled h.room);
      }

pub stays_then : (t u v : Rows) → Stays t u → Stays u v → Stays t v
stays_then t u v a b = record {
  disk = b.disk ∙ a.disk;
  first = b.first ∙ a.first;
  past = b.past ∙ a.past;
  changes = b.changes ∙ a.changes;
  room = b.room ∙ a.room;
  files = b.files ∙ a.files;
  unsettled = b.unsettled ∙ a.unsettled;
}

-- A change that is recorded.

-- a table whose entries changed by an event that its record has last
pub record Records (t t' : Inside) (c : Change) (e : Event) : Type 0 where
  pub names : t'.names.items ≡ t.names.items
  pub contents : t'.contents.items ≡ t.contents.items
  pub entries : All (IsEntryIn (length t.names.items) (length t.contents.items)) t'.entries.items
  pub names_same : names_in t.names.items t'.entries.items ≡ names_in t.names.items t.entries.items
  pub numbers : t'.numbers ≡ t.numbers
  pub unsettled : AreUnsettled t'.unsettled t'.entries.items
  pub first : first_disk (resolved t.names.items t.contents.items t'.entries.items) ≡ table_first (rows_of t)
  pub disk : disk_of (resolved t.names.items t.contents.items t'.entries.items) ≡ after e (table_disk (rows_of t))
  pub changes : t'.changes.items ≡ t.changes.items ++ c ∷ []
  pub within : IsChangeIn (length t.names.items) (length t.contents.items) c
  pub event : event_in t.names.items t.contents.items c ≡ e

resolved_same : (t t' : Inside) (c : Change) (e : Event) → Records t t' c e → entries_of (rows_of t') ≡ resolved t.names.items t.contents.items t'.entries.items
resolved_same t t' c e h = rw (h.names, h.contents) refl

disk_recorded : (t t' : Inside) (c : Change) (e : Event) → Records t t' c e → table_disk (rows_of t') ≡ after e (table_disk (rows_of t))
disk_recorded t t' c e h = ap disk_of (resolved_same t t' c e h) ∙ h.disk

first_recorded : (t t' : Inside) (c : Change) (e : Event) → Records t t' c e → table_first (rows_of t') ≡ table_first (rows_of t)
first_recorded t t' c e h = ap first_disk (resolved_same t t' c e h) ∙ h.first

past_recorded : (t t' : Inside) (c : Change) (e : Event) → Records t t' c e → past_of (rows_of t') ≡ past_of (rows_of t) ++ e ∷ []
past_recorded t t' c e h = rw (h.names, h.contents, h.changes)
    (map-append (event_in t.names.items t.contents.items) t.changes.items (c ∷ []) ∙ ap (λ x. past_of (rows_of t) ++ x ∷ []) h.event)

pub table_recorded : (t t' : Inside) (c : Change) (e : Event) → IsIndexed t → Records t t' c e → IsIndexed t'
table_recorded t t' c e is h = record {
  table = record {
    entries = rw (h.names, h.contents) h.entries;
    changes = rw (h.names, h.contents, h.changes) (All-push (IsChangeIn (length t.names.items) (length t.contents.items)) t.changes.items c is.table.changes h.within);
    apart = rw (h.names, h.names_same) is.table.apart;
    linked = disk_recorded t t' c e h ∙ ap (after e) is.table.linked ∙ sym (replay-push (past_of (rows_of t)) e (table_first (rows_of t))) ∙ (let p = past_recorded t t' c e h in let f = first_recorded t t' c e h in cc);
  };
  ordered = rw h.numbers is.ordered;
  numbers = rw (h.names, h.names_same, h.numbers) is.numbers;
  unsettled = h.unsettled;
}

pub adds_recorded : (t t' : Inside) (c : Change) (e : Event) → Records t t' c e → vec_capacity t'.changes ≡ vec_capacity t.changes → Adds e (rows_of t) (rows_of t')
adds_recorded t t' c e h room = record {
  disk = disk_recorded t t' c e h;
  first = first_recorded t t' c e h;
  past = past_recorded t t' c e h;
  len = ap (λ (cs : List Change). length cs) h.changes ∙ length-append t.changes.items (c ∷ []);
  room = room;
}

all_put : (names : List Name) (contents : List (List ℕ)) (es : List Entry) (i : ℕ) (p : Place) → All (IsEntryIn (length names) (length contents)) es → i < length es → IsPlaceIn (length contents) p
    → All (IsEntryIn (length names) (length contents)) (set es i (record (get_or es i any_entry) { place = p }))
all_put names contents es i p all lt within =
    let P = IsEntryIn (length names) (length contents) in
    let old : IsEntryIn (length names) (length contents) (get_or es i any_entry) = all i any_entry lt in
    All-set P es i (record (get_or es i any_entry) { place = p }) (record { name = old.name; first = old.first; place = within }) all

-- t' is t with another place at an entry, and the change
pub record PutsOne (t t' : Inside) (i : ℕ) (p : Place) : Type 0 where
  pub at : i < length t.entries.items
  pub numbers : t'.numbers ≡ t.numbers
  pub unsettled : AreUnsettled t'.unsettled t'.entries.items
  pub within : IsPlaceIn (length t.contents.items) p
  pub names : t'.names.items ≡ t.names.items
  pub contents : t'.contents.items ≡ t.contents.items
  pub entries : t'.entries.items ≡ set t.entries.items i (record (entry_at (rows_of t) i) { place = p })
  pub changes : t'.changes.items ≡ t.changes.items ++ Puts (entry_at (rows_of t) i).name p ∷ []

put_in : (t t' : Inside) (i : ℕ) (p : Place) → IsIndexed t → PutsOne t t' i p
    → IsPut t.names.items t.contents.items t.entries.items t'.entries.items (name_in t.names.items (entry_at (rows_of t) i).name) (slot_in t.contents.items (entry_at (rows_of t) i).place) (slot_in t.contents.items p)
put_in t t' i p is h =
    subst (λ es. IsPut t.names.items t.contents.items t.entries.items es (name_in t.names.items (entry_at (rows_of t) i).name) (slot_in t.contents.items (entry_at (rows_of t) i).place) (slot_in t.contents.items p)) (sym h.entries)
    (is_put t.names.items t.contents.items t.entries.items i any_entry (name_in t.names.items (entry_at (rows_of t) i).name) p is.table.apart h.at refl)

pub records_put : (t t' : Inside) (i : ℕ) (p : Place) → IsIndexed t → PutsOne t t' i p → Records t t' (Puts (entry_at (rows_of t) i).name p) (event.Puts (name_in t.names.items (entry_at (rows_of t) i).name) (slot_in t.contents.items p))
records_put t t' i p is h =
    let put = put_in t t' i p is h in
    let old = is.table.entries i any_entry h.at in
    record {
      names = h.names;
      contents = h.contents;
      entries = rw h.entries (all_put t.names.items t.contents.items t.entries.items i p is.table.entries h.at h.within);
      names_same = put.names_same;
      numbers = h.numbers;
      unsettled = h.unsettled;
      first = put.first;
      disk = put.disk;
      changes = h.changes;
      within = (old.name, h.within);
      event = refl;
    }

pub files_put : (t t' : Inside) (i : ℕ) (p : Place) → IsIndexed t → PutsOne t t' i p → file_count (entries_of (rows_of t')) + has_file (slot_in t.contents.items (entry_at (rows_of t) i).place) ≡ file_count (entries_of (rows_of t)) + has_file (slot_in t.contents.items p)
files_put t t' i p is h = rw (h.names, h.contents) ((put_in t t' i p is h).files)

-- t' is t with other places at two entries, and the change
pub record PutsBoth (t t' : Inside) (i : ℕ) (p : Place) (j : ℕ) (q : Place) : Type 0 where
  pub at : i < length t.entries.items
  pub numbers : t'.numbers ≡ t.numbers
  pub unsettled : AreUnsettled t'.unsettled t'.entries.items
  pub within : IsPlaceIn (length t.contents.items) p
  pub other : j < length t.entries.items
  pub other_within : IsPlaceIn (length t.contents.items) q
  pub apart : i ≢ j
  pub names : t'.names.items ≡ t.names.items
  pub contents : t'.contents.items ≡ t.contents.items
  pub entries : t'.entries.items ≡ set (set t.entries.items i (record (entry_at (rows_of t) i) { place = p })) j (record (get_or (set t.entries.items i (record (entry_at (rows_of t) i) { place = p })) j any_entry) { place = q })
  pub changes : t'.changes.items ≡ t.changes.items ++ PutsTwo (entry_at (rows_of t) i).name p (entry_at (rows_of t) j).name q ∷ []

-- the entries after the first of two puts
abbrev pub one_put : Inside → ℕ → Place → List Entry
one_put t i p = set t.entries.items i (record (entry_at (rows_of t) i) { place = p })

other_same : (t t' : Inside) (i : ℕ) (p : Place) (j : ℕ) (q : Place) → PutsBoth t t' i p j q → get_or (one_put t i p) j any_entry ≡ entry_at (rows_of t) j
other_same t t' i p j q h = get_or-set_other t.entries.items i j (record (entry_at (rows_of t) i) { place = p }) any_entry (λ e. h.apart (sym e))

first_put_in : (t t' : Inside) (i : ℕ) (p : Place) (j : ℕ) (q : Place) → IsIndexed t → PutsBoth t t' i p j q
    → IsPut t.names.items t.contents.items t.entries.items (one_put t i p) (name_in t.names.items (entry_at (rows_of t) i).name) (slot_in t.contents.items (entry_at (rows_of t) i).place) (slot_in t.contents.items p)
first_put_in t t' i p j q is h = is_put t.names.items t.contents.items t.entries.items i any_entry (name_in t.names.items (entry_at (rows_of t) i).name) p is.table.apart h.at refl

second_put_in : (t t' : Inside) (i : ℕ) (p : Place) (j : ℕ) (q : Place) → IsIndexed t → PutsBoth t t' i p j q
    → IsPut t.names.items t.contents.items (one_put t i p) t'.entries.items (name_in t.names.items (entry_at (rows_of t) j).name) (slot_in t.contents.items (entry_at (rows_of t) j).place) (slot_in t.contents.items q)
second_put_in t t' i p j q is h =
    let es1 = one_put t i p in
    let same = other_same t t' i p j q h in
    let differ : AreApart (names_in t.names.items es1) = rw (first_put_in t t' i p j q is h).names_same is.table.apart in
    let lt : j < length es1 = rw (length-set t.entries.items i (record (entry_at (rows_of t) i) { place = p })) h.other in
    let put = is_put t.names.items t.contents.items es1 j any_entry (name_in t.names.items (entry_at (rows_of t) j).name) q differ lt (ap (λ (e : Entry). name_in t.names.items e.name) same) in
    subst (λ es. IsPut t.names.items t.contents.items es1 es (name_in t.names.items (entry_at (rows_of t) j).name) (slot_in t.contents.items (entry_at (rows_of t) j).place) (slot_in t.contents.items q)) (sym h.entries)
    (subst (λ (e : Entry). IsPut t.names.items t.contents.items es1 (set es1 j (record (get_or es1 j any_entry) { place = q })) (name_in t.names.items (entry_at (rows_of t) j).name) (slot_in t.contents.items e.place) (slot_in t.contents.items q)) same put)

-- the event of two puts
abbrev pub both_put : Inside → ℕ → Place → ℕ → Place → Event
both_put t i p j q = event.PutsTwo (name_in t.names.items (entry_at (rows_of t) i).name) (slot_in t.contents.items p) (name_in t.names.items (entry_at (rows_of t) j).name) (slot_in t.contents.items q)

pub records_both : (t t' : Inside) (i : ℕ) (p : Place) (j : ℕ) (q : Place) → IsIndexed t → PutsBoth t t' i p j q → Records t t' (PutsTwo (entry_at (rows_of t) i).name p (entry_at (rows_of t) j).name q) (both_put t i p j q)
records_both t t' i p j q is h =
    let a = first_put_in t t' i p j q is h in
    let b = second_put_in t t' i p j q is h in
    let lt : j < length (one_put t i p) = rw (length-set t.entries.items i (record (entry_at (rows_of t) i) { place = p })) h.other in
    record {
      names = h.names;
      contents = h.contents;
      entries = rw h.entries (all_put t.names.items t.contents.items (one_put t i p) j q (all_put t.names.items t.contents.items t.entries.items i p is.table.entries h.at h.within) lt h.other_within);
      names_same = b.names_same ∙ a.names_same;
      numbers = h.numbers;
      unsettled = h.unsettled;
      first = b.first ∙ a.first;
      disk = b.disk ∙ ap (λ d. with_slot d (name_in t.names.items (entry_at (rows_of t) j).name) (slot_in t.contents.items q)) a.disk;
      changes = h.changes;
      within = ((is.table.entries i any_entry h.at).name, h.within, (is.table.entries j any_entry h.other).name, h.other_within);
      event = refl;
    }

pub files_both : (t t' : Inside) (i : ℕ) (p : Place) (j : ℕ) (q : Place) → IsIndexed t → PutsBoth t t' i p j q
    → file_count (entries_of (rows_of t')) + (has_file (slot_in t.contents.items (entry_at (rows_of t) i).place) + has_file (slot_in t.contents.items (entry_at (rows_of t) j).place))
    ≡ file_count (entries_of (rows_of t)) + (has_file (slot_in t.contents.items p) + has_file (slot_in t.contents.items q))
files_both t t' i p j q is h =
    let a = (first_put_in t t' i p j q is h).files in
    let b = (second_put_in t t' i p j q is h).files in
    rw (h.names, h.contents) (omega (arith, a, b))
