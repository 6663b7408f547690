-- A table whose lists of names and contents grow stands for the same disk and the same changes.
use Rattle.std.proofs.Common.{◌≡◌, ◌≤◌, Global, ℕ, List, [], ◌∷◌, ◌++◌, length, map, refl, ap, subst, sym, ◌∙◌, arith, length-append}
use Rattle.std.specs.List.{All}
use Rattle.std.specs.declared.option.Option.{Option}
use Rattle.std.specs.declared.option.Option.TheVariants.{None, Some}
use Rattle.std.proofs.lemmas.List.Elements.{All-head, All-tail, All-weaker, All-nil}
use Rattle.std.proofs.Math.ListN.{get_or-append}
use Rattle.std.specs.BTreeMap.{BTreeMap, get_by_text, is_at}
use Rattle.std.specs.Map.{lookup}
use Rattle.std.specs.Prelude.{String}
use Rattle.std.specs.List.Sorted.{IsStrictlySortedBy}
use Rattle.std.specs.String.{string_bytes, string_cmp}
use Rattle.std.specs.Vec.{vec_capacity}
use Rattle.cv_base.specs.BytesOrder.{bytes_cmp}
use Rattle.cv_vault.specs.Disk as disk
use Rattle.cv_vault.specs.Names.{Name}
use Rattle.cv_vault.specs.Events.{file_count, any_unsettled}
use Rattle.cv_vault.specs.EventsInner.{disk_of, first_disk}
use Rattle.cv_vault.specs.Places.{file_in, mark_in, slot_in}
use Rattle.cv_vault.specs.PlacesInner.{IsFileIn, IsMarkIn, IsPlaceIn}
use Rattle.cv_vault.specs.Table.{name_in, named_in, event_in, entries_of, past_of}
use Rattle.cv_vault.specs.TableInner.{names_in, IsEntryIn, IsChangeIn, Stays}
use Rattle.cv_vault.specs.IndexedInner.{rows_of, IsIndexed, AreNumbers, AreUnsettled}
use Rattle.cv_vault.specs.declared.place.Place.{Place}
use Rattle.cv_vault.specs.declared.place.PlaceMark.{PlaceMark}
use Rattle.cv_vault.specs.declared.place.PlaceMark.TheVariants.{Settled, Torn, Moved}
use Rattle.cv_vault.specs.declared.table.Entry.{Entry}
use Rattle.cv_vault.specs.declared.table.Table.TheInside.{Inside}
use Rattle.cv_vault.specs.declared.table.Change.{Change}
use Rattle.cv_vault.specs.declared.table.Change.TheVariants.{Puts, PutsTwo, Settles}
use Rattle.cv_vault.proofs.Reading.{numbers_apart}

map_agree : {X Y : Type 0} (f g : X → Y) (P : X → Type 0) → ((x : X) → P x → f x ≡ g x) → (xs : List X) → All P xs → map f xs ≡ map g xs
map_agree f g P h [] all = refl
map_agree {X} {Y} f g P h (x ∷ xs) all =
    let here : f x ≡ g x = h x (All-head P x xs all) in
    let rest : map f xs ≡ map g xs = map_agree f g P h xs (All-tail P x xs all) in cc

module _ (contents more : List (List ℕ)) where
  file_grown : (k : Option ℕ) → IsFileIn (length contents) k → file_in (contents ++ more) k ≡ file_in contents k
  file_grown None h = refl
  file_grown (Some i) h = ap Some (get_or-append contents more [] i h)

  mark_grown : (m : PlaceMark) → IsMarkIn (length contents) m → mark_in (contents ++ more) m ≡ mark_in contents m
  mark_grown Settled h = refl
  mark_grown Torn h = refl
  mark_grown (Moved before) h = ap disk.Moved (file_grown before h)

  pub slot_grown : (p : Place) → IsPlaceIn (length contents) p → slot_in (contents ++ more) p ≡ slot_in contents p
  slot_grown p h = λ i. record { now = file_grown p.now h.file i; mark = mark_grown p.mark h.mark i }

  file_within : (k : Option ℕ) → IsFileIn (length contents) k → IsFileIn (length (contents ++ more)) k
  file_within None h = tt
  file_within (Some i) h = omega (arith, length-append contents more)

  mark_within : (m : PlaceMark) → IsMarkIn (length contents) m → IsMarkIn (length (contents ++ more)) m
  mark_within Settled h = tt
  mark_within Torn h = tt
  mark_within (Moved before) h = file_within before h

  pub place_within : (p : Place) → IsPlaceIn (length contents) p → IsPlaceIn (length (contents ++ more)) p
  place_within p h = record { file = file_within p.now h.file; mark = mark_within p.mark h.mark }

module _ (names : List Name) (contents : List (List ℕ)) (names_more : List Name) (contents_more : List (List ℕ)) where
  named_grown : (e : Entry) → IsEntryIn (length names) (length contents) e → named_in (names ++ names_more) (contents ++ contents_more) e ≡ named_in names contents e
  named_grown e h = λ i. record {
    name = get_or-append names names_more [] e.name h.name i;
    first = file_grown contents contents_more e.first h.first i;
    stands = slot_grown contents contents_more e.place h.place i;
  }

  event_grown : (c : Change) → IsChangeIn (length names) (length contents) c → event_in (names ++ names_more) (contents ++ contents_more) c ≡ event_in names contents c
  event_grown (Puts n p) h = let a = get_or-append names names_more [] n h.0 in let s = slot_grown contents contents_more p h.1 in cc
  event_grown (PutsTwo n p m q) h =
      let a = get_or-append names names_more [] n h.0 in let s = slot_grown contents contents_more p h.1 in
      let b = get_or-append names names_more [] m h.2 in let t = slot_grown contents contents_more q h.3 in cc
  event_grown Settles h = refl

  entry_within : (e : Entry) → IsEntryIn (length names) (length contents) e → IsEntryIn (length (names ++ names_more)) (length (contents ++ contents_more)) e
  entry_within e h = record {
    name = let lt = h.name in omega (arith, length-append names names_more);
    first = file_within contents contents_more e.first h.first;
    place = place_within contents contents_more e.place h.place;
  }

  change_within : (c : Change) → IsChangeIn (length names) (length contents) c → IsChangeIn (length (names ++ names_more)) (length (contents ++ contents_more)) c
  change_within (Puts n p) h = (omega (arith, length-append names names_more, h.0), place_within contents contents_more p h.1)
  change_within (PutsTwo n p m q) h = (omega (arith, length-append names names_more, h.0), place_within contents contents_more p h.1, omega (arith, length-append names names_more, h.2), place_within contents contents_more q h.3)
  change_within Settles h = tt

  entries_grown : (es : List Entry) → All (IsEntryIn (length names) (length contents)) es → map (named_in (names ++ names_more) (contents ++ contents_more)) es ≡ map (named_in names contents) es
  entries_grown es h = map_agree _ _ (IsEntryIn (length names) (length contents)) named_grown es h

  events_grown : (cs : List Change) → All (IsChangeIn (length names) (length contents)) cs → map (event_in (names ++ names_more) (contents ++ contents_more)) cs ≡ map (event_in names contents) cs
  events_grown cs h = map_agree _ _ (IsChangeIn (length names) (length contents)) event_grown cs h

  pub names_grown : (es : List Entry) → All (IsEntryIn (length names) (length contents)) es → names_in (names ++ names_more) es ≡ names_in names es
  names_grown es h = map_agree (λ (e : Entry). name_in (names ++ names_more) e.name) (λ (e : Entry). name_in names e.name) (IsEntryIn (length names) (length contents)) (λ e x. get_or-append names names_more [] e.name x.name) es h

-- t' is t with more names and contents
pub record Grows (t t' : Inside) : Type 0 where
  pub names_more : List Name
  pub names : t'.names.items ≡ t.names.items ++ names_more
  pub contents_more : List (List ℕ)
  pub contents : t'.contents.items ≡ t.contents.items ++ contents_more
  pub entries : t'.entries.items ≡ t.entries.items
  pub numbers : t'.numbers.entries ≡ t.numbers.entries
  pub unsettled : t'.unsettled.items ≡ t.unsettled.items
  pub room : vec_capacity t.unsettled ≤ vec_capacity t'.unsettled
  pub changes : t'.changes ≡ t.changes

-- a map with the same entries gives the same numbers
pub numbers_same : {Y : Type 0} (m m' : BTreeMap (String Y) ℕ) → m'.entries ≡ m.entries → get_by_text m' ≡ get_by_text m
numbers_same {Y} m m' e =
    let find : List (String Y × ℕ) → Name → Option ℕ = λ es n. lookup (is_at (λ (k : String Y). bytes_cmp n (string_bytes k))) es in
    ap find e

unsettled_grown : (t t' : Inside) → AreUnsettled t.unsettled t.entries.items → Grows t t' → AreUnsettled t'.unsettled t'.entries.items
unsettled_grown t t' u g = record {
  within = rw (g.unsettled, g.entries) u.within;
  each = rw (g.unsettled, g.entries) u.each;
  count = rw (g.unsettled, g.entries) u.count;
  room = rw g.entries (let r = u.room in let s = g.room in omega arith);
}

pub entries_of-grown : (t t' : Inside) → IsIndexed t → Grows t t' → entries_of (rows_of t') ≡ entries_of (rows_of t)
entries_of-grown t t' is g = rw (g.names, g.contents, g.entries) (entries_grown t.names.items t.contents.items g.names_more g.contents_more t.entries.items is.table.entries)

pub past_of-grown : (t t' : Inside) → IsIndexed t → Grows t t' → past_of (rows_of t') ≡ past_of (rows_of t)
past_of-grown t t' is g = rw (g.names, g.contents, g.changes) (events_grown t.names.items t.contents.items g.names_more g.contents_more t.changes.items is.table.changes)

pub stays_grown : (t t' : Inside) → IsIndexed t → Grows t t' → Stays (rows_of t) (rows_of t')
stays_grown t t' is g =
    let e = entries_of-grown t t' is g in
    record { disk = ap disk_of e; first = ap first_disk e; past = past_of-grown t t' is g; changes = ap (λ v. v.items) g.changes; room = ap (λ v. vec_capacity v) g.changes; files = ap file_count e; unsettled = ap any_unsettled e }

pub table_grown : (t t' : Inside) → IsIndexed t → Grows t t' → IsIndexed t'
table_grown t t' is g =
    let s = stays_grown t t' is g in
    let ns : List Name = names_in t'.names.items t'.entries.items in
    let numbers : AreNumbers (get_by_text t'.numbers) ns = rw (g.names, g.entries)
    (subst (λ f. AreNumbers f (names_in (t.names.items ++ g.names_more) t.entries.items)) (sym (numbers_same t.numbers t'.numbers g.numbers))
    (subst (AreNumbers (get_by_text t.numbers)) (sym (names_grown t.names.items t.contents.items g.names_more g.contents_more t.entries.items is.table.entries)) is.numbers)) in
    record {
      table = record {
        entries = rw (g.names, g.contents, g.entries) (All-weaker _ _ (entry_within t.names.items t.contents.items g.names_more g.contents_more) t.entries.items is.table.entries);
        changes = rw (g.names, g.contents, g.changes) (All-weaker _ _ (change_within t.names.items t.contents.items g.names_more g.contents_more) t.changes.items is.table.changes);
        apart = numbers_apart (get_by_text t'.numbers) ns numbers;
        linked = s.disk ∙ is.table.linked ∙ (let p = s.past in let f = s.first in cc);
      };
      ordered = subst (λ (ks : List (String Global × ℕ)). IsStrictlySortedBy string_cmp (map (λ (k : String Global × ℕ). k.0) ks)) (sym g.numbers) is.ordered;
      numbers = numbers;
      unsettled = unsettled_grown t t' is.unsettled g;
    }

-- a table without names
pub record IsNone (t : Inside) : Type 0 where
  pub entries : t.entries.items ≡ []
  pub numbers : t.numbers.entries ≡ []
  pub unsettled : t.unsettled.items ≡ []
  pub changes : t.changes.items ≡ []

pub table_none : (t : Inside) → IsNone t → IsIndexed t
unfolding IsStrictlySortedBy
table_none t h = record {
  table = record {
    entries = rw h.entries (All-nil _);
    changes = rw h.changes (All-nil _);
    apart = rw h.entries (λ i j lt. absurd (omega arith));
    linked = rw (h.entries, h.changes) refl;
  };
  ordered = rw h.numbers tt;
  numbers = λ n i. rw (h.entries, h.numbers) (none i, λ l. absurd (let lt = l.0 in omega arith));
  unsettled = record {
    within = rw h.unsettled (All-nil _);
    each = rw h.entries (λ i lt. absurd (omega arith));
    count = rw (h.entries, h.unsettled) refl;
    room = rw h.entries (omega arith);
  };
}
  where
    none : {X : Type 0} (i : ℕ) → None ≡ Some i → X
    none i e = cc
