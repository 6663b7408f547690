-- What a crash leaves of a table.
use Rattle.std.proofs.Common.{◌≡◌, ◌≢◌, ◌⊎◌, inl, inr, ℕ, ◌<◌, ◌/◌, ◌%◌, ◌==◌, Bool, true, false, not, cond, List, [], ◌∷◌, length, get_or, set, map, length-set, get_or-set_other, refl, ap, subst, sym, ◌∙◌, arith}
use Rattle.std.specs.Vec.{vec_capacity}
use Rattle.std.specs.List.{All, Contains, filter}
use Rattle.std.specs.List.Sorted.{IsStrictlySortedBy}
use Rattle.std.specs.String.{string_bytes}
use Rattle.std.specs.declared.cmp.Ordering.TheVariants.{Less}
use Rattle.std.proofs.Math.Seq.{map-set_same}
use Rattle.std.proofs.lemmas.Bool.{not-true}
use Rattle.std.proofs.lemmas.List.{get_or-set_same}
use Rattle.std.proofs.lemmas.List.Kept.{IsStrictlySortedBy-filter}
use Rattle.std.proofs.lemmas.List.Elements.{All-nil, All-head, All-tail, All-cons, All-set, All-filter, All-weaker, All-from_get_or, All-from_recursion}
use Rattle.cv_base.specs.BytesOrder.{bytes_cmp}
use Rattle.cv_base.proofs.Laws.{same_or_other}
use Rattle.cv_vault.specs.Names.{Name, same_name}
use Rattle.cv_vault.specs.Disk as disk
use Rattle.cv_vault.specs.Disk.{Disk, Slot, May, Image, LeftAt, slot, with_slot, is_settled}
use Rattle.cv_vault.specs.Crash.{Crashes, file_before, left_by, picks}
use Rattle.cv_vault.specs.Events.{any_unsettled}
use Rattle.cv_vault.specs.EventsInner.{disk_of, first_disk}
use Rattle.cv_vault.specs.Places.{file_in, mark_in, slot_in}
use Rattle.cv_vault.specs.PlacesInner.{is_settled_place, before_place, left_place, next_pick, IsFileIn, IsMarkIn, IsPlaceIn}
use Rattle.cv_vault.specs.Table.{name_in, entries_of, past_of}
use Rattle.cv_vault.specs.TableInner.{any_entry, crash_at, crashed, names_in, table_disk, Lacks, IsEntryIn, AreApart}
use Rattle.cv_vault.specs.IndexedInner.{rows_of, IsIndexed}
use Rattle.cv_vault.specs.declared.place.Place.{Place}
use Rattle.cv_vault.specs.declared.place.PlaceMark.{PlaceMark}
use Rattle.cv_vault.specs.declared.place.PlaceMark.TheVariants as mark
use Rattle.cv_vault.specs.declared.table.Entry.{Entry}
use Rattle.cv_vault.specs.declared.table.Table.TheInside.{Inside}
use Rattle.cv_vault.proofs.Names.{here, elsewhere, other_name, same_name_itself, same_or_not, below_differs}
use Rattle.cv_vault.proofs.Reading.{resolved}
use Rattle.cv_vault.proofs.Unsettled.{Contains-rest, unsettled_none}
use Rattle.cv_vault.proofs.Changing.{set_disk}
use Rattle.cv_vault.proofs.Steps.{slot_at, settled_in}
use Rattle.cv_vault.proofs.Ordered.{names_of, all_names, ascending, placed, numbers_in_range, covered, among_or_none, passes, passed}
use Rattle.cv_vault.proofs.Calling.{now_may}

-- Each entry is settled with its file, which is its first as well.

file_left_in : (n pick : ℕ) (p : Place) → IsPlaceIn n p → IsFileIn n (left_place pick p)
file_left_in n pick p h = by (is_settled_place p) (pick % 2 == 0) p.mark h.mark
  where
    before : (m : PlaceMark) → IsMarkIn n m → IsFileIn n (before_place p.now m)
    before mark.Settled k = h.file
    before mark.Torn k = tt
    before (mark.Moved f) k = k

    by : (a b : Bool) (m : PlaceMark) → IsMarkIn n m → IsFileIn n (cond a p.now (cond b (before_place p.now m) p.now))
    by true b m k = h.file
    by false true m k = before m k
    by false false m k = h.file

-- the entries, where one is crashed
abbrev pub crash_one : ℕ → List Entry → ℕ → List Entry
crash_one pick es k = set es k (crash_at pick (get_or es k any_entry))

abbrev pub pick_after : ℕ → List Entry → ℕ → ℕ
pick_after pick es k = next_pick pick (get_or es k any_entry).place

-- the entry is settled with its first file
abbrev pub IsFresh : Entry → Type 0
IsFresh e = e.place ≡ record { now = e.first; mark = mark.Settled }

module _ {K : Type 0} where
  pub length-crashed : (pick : ℕ) (ps : List (K × ℕ)) (es : List Entry) → length (crashed pick ps es) ≡ length es
  length-crashed pick [] es = refl
  length-crashed pick (p ∷ ps) es = length-crashed (pick_after pick es p.1) ps (crash_one pick es p.1) ∙ length-set es p.1 (crash_at pick (get_or es p.1 any_entry))

  pub in_range : (pick k : ℕ) (ps : List (K × ℕ)) (es : List Entry) → All (λ (p : K × ℕ). p.1 < length es) ps → All (λ (p : K × ℕ). p.1 < length (crash_one pick es k)) ps
  in_range pick k ps es h = subst (λ n. All (λ (p : K × ℕ). p.1 < n) ps) (sym (length-set es k (crash_at pick (get_or es k any_entry)))) h

  fresh_at : (pick : ℕ) (ps : List (K × ℕ)) (es : List Entry) (i : ℕ) → i < length es → Contains (map (λ (p : K × ℕ). p.1) ps) i ⊎ IsFresh (get_or es i any_entry) → IsFresh (get_or (crashed pick ps es) i any_entry)
  fresh_at pick [] es i lt (inl c) = absurd (let l = c.1 in omega arith)
  fresh_at pick [] es i lt (inr h) = h
  fresh_at pick (p ∷ ps) es i lt h =
      let x : Entry = crash_at pick (get_or es p.1 any_entry) in
      let lt' : i < length (crash_one pick es p.1) = rw (length-set es p.1 x) lt in
      elim (same_or_other i p.1) [
        | inl e ↦ fresh_at (pick_after pick es p.1) ps (crash_one pick es p.1) i lt'
            (inr (subst IsFresh (sym (ap (λ j. get_or (crash_one pick es p.1) j any_entry) e ∙ get_or-set_same es p.1 x any_entry (subst (λ j. j < length es) e lt))) refl))
        | inr ne ↦ fresh_at (pick_after pick es p.1) ps (crash_one pick es p.1) i lt' (elim h [
          | inl c ↦ inl (Contains-rest p.1 (map (λ (p : K × ℕ). p.1) ps) i (λ e. ne (sym e)) c)
          | inr was ↦ inr (subst IsFresh (sym (get_or-set_other es p.1 i x any_entry ne)) was)
        ])
      ]

  pub all_fresh : (pick : ℕ) (ps : List (K × ℕ)) (es : List Entry) → ((i : ℕ) → i < length es → Contains (map (λ (p : K × ℕ). p.1) ps) i) → All IsFresh (crashed pick ps es)
  all_fresh pick ps es h = All-from_get_or IsFresh (crashed pick ps es) any_entry (λ i lt. let within : i < length es = subst (λ k. i < k) (length-crashed pick ps es) lt in fresh_at pick ps es i within (inl (h i within)))

  crashed_in : (names contents pick : ℕ) (ps : List (K × ℕ)) (es : List Entry) → All (λ (p : K × ℕ). p.1 < length es) ps → All (IsEntryIn names contents) es → All (IsEntryIn names contents) (crashed pick ps es)
  crashed_in names contents pick [] es range h = h
  crashed_in names contents pick (p ∷ ps) es range h =
      let P = IsEntryIn names contents in
      let Q : K × ℕ → Type 0 = λ p. p.1 < length es in
      let e : Entry = get_or es p.1 any_entry in
      let old : IsEntryIn names contents e = h p.1 any_entry (All-head Q p ps range) in
      let file = file_left_in contents pick e.place old.place in
      crashed_in names contents (pick_after pick es p.1) ps (crash_one pick es p.1) (in_range pick p.1 ps es (All-tail Q p ps range))
      (All-set P es p.1 (crash_at pick e) (record { name = old.name; first = file; place = record { file = file; mark = tt } }) h)

module _ (names : List Name) (contents : List (List ℕ)) where
  names_one : (pick : ℕ) (es : List Entry) (k : ℕ) → names_in names (crash_one pick es k) ≡ names_in names es
  names_one pick es k = map-set_same (λ (e : Entry). name_in names e.name) es k (crash_at pick (get_or es k any_entry)) any_entry refl

  names_crashed : {K : Type 0} (pick : ℕ) (ps : List (K × ℕ)) (es : List Entry) → names_in names (crashed pick ps es) ≡ names_in names es
  names_crashed pick [] es = refl
  names_crashed pick (p ∷ ps) es = names_crashed (pick_after pick es p.1) ps (crash_one pick es p.1) ∙ names_one pick es p.1

  first_fresh : (es : List Entry) (n : Name) → All IsFresh es → disk_of (resolved names contents es) n ≡ first_disk (resolved names contents es) n
  first_fresh [] n h = refl
  first_fresh (e ∷ es) n h =
      let rest = first_fresh es n (All-tail IsFresh e es h) in
      rw (All-head IsFresh e es h) (elim (same_name n (name_in names e.name)) as (λ b. cond b (slot (file_in contents e.first) disk.Settled) (disk_of (resolved names contents es) n)
      ≡ slot (cond b (file_in contents e.first) (first_disk (resolved names contents es) n).now) disk.Settled) [ true ↦ refl | false ↦ rest ])

  calm_fresh : (es : List Entry) → All IsFresh es → any_unsettled (resolved names contents es) ≡ false
  calm_fresh [] h = refl
  calm_fresh (e ∷ es) h = rw (All-head IsFresh e es h) (calm_fresh es (All-tail IsFresh e es h))

  -- what is left at one entry, by what stands there
  left_at : (pick : ℕ) (p : Place) → is_settled_place p ≡ false → file_in contents (left_place pick p) ≡ left_by pick (slot_in contents p)
  left_at pick p h = rw h (by (pick % 2 == 0) p.mark)
    where
      by : (b : Bool) (m : PlaceMark) → file_in contents (cond b (before_place p.now m) p.now) ≡ cond b (file_before (file_in contents p.now) (mark_in contents m)) (file_in contents p.now)
      by true mark.Settled = refl
      by true mark.Torn = refl
      by true (mark.Moved f) = refl
      by false m = refl

-- a name that the list lacks has its file
picks_lacks : (pick : ℕ) (ms : List Name) (d : Disk) (n : Name) → Lacks n ms → picks pick ms d n ≡ (d n).now
picks_lacks pick [] d n h = refl
picks_lacks pick (m ∷ ms) d n h = rw (other_name n m (All-head (λ m. n ≢ m) m ms h)) (picks_lacks (pick / 2) ms d n (All-tail (λ m. n ≢ m) m ms h))

-- the names that follow in an ascending list differ
later_names : (m : Name) (ns : List Name) → IsStrictlySortedBy bytes_cmp (m ∷ ns) → Lacks m ns
unfolding IsStrictlySortedBy
later_names m ns h i d lt = below_differs m (get_or ns i d) (All-from_recursion (λ k. bytes_cmp m k ≡ Less) ns h.0 i d lt)

sorted_tail : (m : Name) (ns : List Name) → IsStrictlySortedBy bytes_cmp (m ∷ ns) → IsStrictlySortedBy bytes_cmp ns
unfolding IsStrictlySortedBy
sorted_tail m ns h = h.1

-- names with the numbers of their entries, where the disk d has what stands at each
module _ {K : Type 0} (key : K → Name) (names : List Name) (contents : List (List ℕ)) (d : Disk) where
  abbrev pub unsettled_in : List (K × ℕ) → List Name
  unsettled_in ps = filter (λ m. not (is_settled (d m).mark)) (names_of key ps)

  pub record Agrees (es : List Entry) (p : K × ℕ) : Type 0 where
    pub within : p.1 < length es
    pub name : name_in names (get_or es p.1 any_entry).name ≡ key p.0
    pub stands : d (key p.0) ≡ slot_in contents (get_or es p.1 any_entry).place

  agrees_rest : (pick : ℕ) (es : List Entry) (p : K × ℕ) (ps : List (K × ℕ)) → Lacks (key p.0) (names_of key ps) → Agrees es p → All (Agrees es) ps → All (Agrees (crash_one pick es p.1)) ps
  agrees_rest pick es p [] apart a all = All-nil (Agrees (crash_one pick es p.1))
  agrees_rest pick es p (q ∷ ps) apart a all =
      let x : Entry = crash_at pick (get_or es p.1 any_entry) in
      let b : Agrees es q = All-head (Agrees es) q ps all in
      let ne : key p.0 ≢ key q.0 = All-head (λ m. key p.0 ≢ m) (key q.0) (names_of key ps) apart in
      let other : q.1 ≢ p.1 = (λ e. ne (sym a.name ∙ ap (λ k. name_in names (get_or es k any_entry).name) (sym e) ∙ b.name)) in
      let same : get_or (crash_one pick es p.1) q.1 any_entry ≡ get_or es q.1 any_entry = get_or-set_other es p.1 q.1 x any_entry other in
      All-cons (Agrees (crash_one pick es p.1)) q ps
      (record {
        within = rw (length-set es p.1 x) b.within;
        name = ap (λ (e : Entry). name_in names e.name) same ∙ b.name;
        stands = b.stands ∙ ap (λ (e : Entry). slot_in contents e.place) (sym same);
      })
      (agrees_rest pick es p ps (All-tail (λ m. key p.0 ≢ m) (key q.0) (names_of key ps) apart) a (All-tail (Agrees es) q ps all))

  -- the disk after one entry is crashed
  disk_one : (pick : ℕ) (es : List Entry) (p : K × ℕ) → AreApart (names_in names es) → Agrees es p → (n : Name)
      → disk_of (resolved names contents (crash_one pick es p.1)) n ≡ with_slot (disk_of (resolved names contents es)) (key p.0) (slot (file_in contents (left_place pick (get_or es p.1 any_entry).place)) disk.Settled) n
  disk_one pick es p differ a n = set_disk names contents es p.1 any_entry (key p.0) (crash_at pick (get_or es p.1 any_entry)) differ a.within a.name refl n

  apart_one : (pick : ℕ) (es : List Entry) (k : ℕ) → AreApart (names_in names es) → AreApart (names_in names (crash_one pick es k))
  apart_one pick es k h = rw (names_one names contents pick es k) h

  -- the names that aren't among them
  untouched : (pick : ℕ) (ps : List (K × ℕ)) (es : List Entry) (n : Name) → IsStrictlySortedBy bytes_cmp (names_of key ps) → AreApart (names_in names es) → All (Agrees es) ps → Lacks n (names_of key ps)
      → disk_of (resolved names contents (crashed pick ps es)) n ≡ disk_of (resolved names contents es) n
  untouched pick [] es n sorted differ all h = refl
  untouched pick (p ∷ ps) es n sorted differ all h =
      let a : Agrees es p = All-head (Agrees es) p ps all in
      let ns : List Name = names_of key ps in
      untouched (pick_after pick es p.1) ps (crash_one pick es p.1) n (sorted_tail (key p.0) ns sorted) (apart_one pick es p.1 differ)
      (agrees_rest pick es p ps (later_names (key p.0) ns sorted) a (All-tail (Agrees es) p ps all)) (All-tail (λ m. n ≢ m) (key p.0) ns h)
      ∙ disk_one pick es p differ a n
      ∙ elsewhere (disk_of (resolved names contents es)) (key p.0) (slot (file_in contents (left_place pick (get_or es p.1 any_entry).place)) disk.Settled) n (All-head (λ m. n ≢ m) (key p.0) ns h)

  lacks_filtered : (n : Name) (f : Name → Bool) (ns : List Name) → Lacks n ns → Lacks n (filter f ns)
  lacks_filtered n f ns h = All-filter f (λ m. n ≢ m) ns h

  settled_by : (p : Place) (n : Name) → d n ≡ slot_in contents p → is_settled_place p ≡ is_settled (d n).mark
  settled_by p n e = settled_in contents p.mark ∙ ap (λ (s : Slot). is_settled s.mark) (sym e)

  rest_if_settled : (p : K × ℕ) (ps : List (K × ℕ)) → is_settled (d (key p.0)).mark ≡ true → unsettled_in (p ∷ ps) ≡ unsettled_in ps
  rest_if_settled p ps h = rw h refl

  first_if_open : (p : K × ℕ) (ps : List (K × ℕ)) → is_settled (d (key p.0)).mark ≡ false → unsettled_in (p ∷ ps) ≡ key p.0 ∷ unsettled_in ps
  first_if_open p ps h = rw h refl

  -- what is left at the first name
  picks_here : (pick : ℕ) (es : List Entry) (p : K × ℕ) (ps : List (K × ℕ)) → Lacks (key p.0) (names_of key ps) → Agrees es p
      → file_in contents (left_place pick (get_or es p.1 any_entry).place) ≡ picks pick (unsettled_in (p ∷ ps)) d (key p.0)
  picks_here pick es p ps apart a = by (is_settled_place (get_or es p.1 any_entry).place) refl
    where
      by : (s : Bool) → is_settled_place (get_or es p.1 any_entry).place ≡ s → file_in contents (left_place pick (get_or es p.1 any_entry).place) ≡ picks pick (unsettled_in (p ∷ ps)) d (key p.0)
      by true h =
          let n : Name = key p.0 in
          let q : Place = (get_or es p.1 any_entry).place in
          let now : file_in contents (left_place pick q) ≡ file_in contents q.now = rw h refl in
          now ∙ ap (λ (s : Slot). s.now) (sym a.stands) ∙ sym (picks_lacks pick (unsettled_in ps) d n (lacks_filtered n (λ m. not (is_settled (d m).mark)) (names_of key ps) apart))
          ∙ ap (λ ms. picks pick ms d n) (sym (rest_if_settled p ps (sym (settled_by q n a.stands) ∙ h)))
      by false h =
          let n : Name = key p.0 in
          let q : Place = (get_or es p.1 any_entry).place in
          let first : picks pick (n ∷ unsettled_in ps) d n ≡ left_by pick (d n) = rw (same_name_itself n) refl in
          left_at names contents pick q h ∙ ap (left_by pick) (sym a.stands) ∙ sym first ∙ ap (λ ms. picks pick ms d n) (sym (first_if_open p ps (sym (settled_by q n a.stands) ∙ h)))

  -- what is left at another name
  picks_there : (pick : ℕ) (es : List Entry) (p : K × ℕ) (ps : List (K × ℕ)) (n : Name) → Agrees es p → n ≢ key p.0
      → picks (pick_after pick es p.1) (unsettled_in ps) d n ≡ picks pick (unsettled_in (p ∷ ps)) d n
  picks_there pick es p ps n a other = by (is_settled_place (get_or es p.1 any_entry).place) refl
    where
      by : (s : Bool) → is_settled_place (get_or es p.1 any_entry).place ≡ s → picks (pick_after pick es p.1) (unsettled_in ps) d n ≡ picks pick (unsettled_in (p ∷ ps)) d n
      by true h =
          ap (λ b. picks (cond b pick (pick / 2)) (unsettled_in ps) d n) h
          ∙ ap (λ ms. picks pick ms d n) (sym (rest_if_settled p ps (sym (settled_by (get_or es p.1 any_entry).place (key p.0) a.stands) ∙ h)))
      by false h =
          let skip : picks pick (key p.0 ∷ unsettled_in ps) d n ≡ picks (pick / 2) (unsettled_in ps) d n = rw (other_name n (key p.0) other) refl in
          ap (λ b. picks (cond b pick (pick / 2)) (unsettled_in ps) d n) h ∙ sym skip
          ∙ ap (λ ms. picks pick ms d n) (sym (first_if_open p ps (sym (settled_by (get_or es p.1 any_entry).place (key p.0) a.stands) ∙ h)))

  -- the files that the pick leaves
  pub crashed_at : (pick : ℕ) (ps : List (K × ℕ)) (es : List Entry) (n : Name) → IsStrictlySortedBy bytes_cmp (names_of key ps) → AreApart (names_in names es) → All (Agrees es) ps
      → (Lacks n (names_of key ps) → disk_of (resolved names contents es) n ≡ slot (d n).now disk.Settled)
      → disk_of (resolved names contents (crashed pick ps es)) n ≡ slot (picks pick (unsettled_in ps) d n) disk.Settled
  crashed_at pick [] es n sorted differ all missing = missing (λ k d lt. absurd (omega arith))
  crashed_at pick (p ∷ ps) es n sorted differ all missing =
      let a : Agrees es p = All-head (Agrees es) p ps all in
      let m : Name = key p.0 in
      let ns : List Name = names_of key ps in
      let left : Slot = slot (file_in contents (left_place pick (get_or es p.1 any_entry).place)) disk.Settled in
      let rest = agrees_rest pick es p ps (later_names m ns sorted) a (All-tail (Agrees es) p ps all) in
      elim (same_or_not n m) [
        | inl same ↦
            untouched (pick_after pick es p.1) ps (crash_one pick es p.1) n (sorted_tail m ns sorted) (apart_one pick es p.1 differ) rest (subst (λ k. Lacks k ns) (sym same) (later_names m ns sorted))
            ∙ disk_one pick es p differ a n
            ∙ subst (λ k. with_slot (disk_of (resolved names contents es)) m left k ≡ left) (sym same) (here (disk_of (resolved names contents es)) m left)
            ∙ ap (λ f. slot f disk.Settled) (picks_here pick es p ps (later_names m ns sorted) a ∙ ap (λ k. picks pick (unsettled_in (p ∷ ps)) d k) (sym same))
        | inr other ↦
            crashed_at (pick_after pick es p.1) ps (crash_one pick es p.1) n (sorted_tail m ns sorted) (apart_one pick es p.1 differ) rest
            (λ h. disk_one pick es p differ a n ∙ elsewhere (disk_of (resolved names contents es)) m left n other ∙ missing (All-cons (λ k. n ≢ k) m ns other h))
            ∙ ap (λ f. slot f disk.Settled) (picks_there pick es p ps n a other)
      ]

-- a pick leaves an image
left_may : (pick : ℕ) (s : Slot) → May s (left_by pick s)
left_may pick s = by (pick % 2 == 0) s.mark
  where
    by : (b : Bool) (m : disk.Mark) → LeftAt s.now m (cond b (file_before s.now m) s.now)
    by true disk.Settled = refl
    by true disk.Torn = tt
    by true (disk.Moved f) = inl refl
    by false disk.Settled = refl
    by false disk.Torn = tt
    by false (disk.Moved f) = inr refl

pub picks_image : (pick : ℕ) (ms : List Name) (d : Disk) → Image d (picks pick ms d)
picks_image pick [] d n = now_may (d n)
picks_image pick (m ∷ ms) d n = elim (same_or_not n m) [
  | inl same ↦ let yes : same_name n m ≡ true = rw same (same_name_itself m) in rw yes (subst (λ (k : Name). May (d n) (left_by pick (d k))) same (left_may pick (d n)))
  | inr other ↦ let no : same_name n m ≡ false = other_name n m other in rw no (picks_image (pick / 2) ms d n)
]

settled_there : true ≡ false → ⊥
settled_there e = cc

-- t' is t after a crash
pub record IsCrashed (pick : ℕ) (t t' : Inside) : Type 0 where
  pub names : t'.names.items ≡ t.names.items
  pub contents : t'.contents.items ≡ t.contents.items
  pub entries : t'.entries.items ≡ crashed pick t.numbers.entries t.entries.items
  pub numbers : t'.numbers ≡ t.numbers
  pub unsettled : t'.unsettled.items ≡ []
  pub room : vec_capacity t'.unsettled ≡ vec_capacity t.unsettled
  pub changes : t'.changes.items ≡ []

pub past_crashed : (pick : ℕ) (t t' : Inside) → IsCrashed pick t t' → past_of (rows_of t') ≡ []
past_crashed pick t t' h = rw h.changes refl

module _ (pick : ℕ) (t t' : Inside) (is : IsIndexed t) (h : IsCrashed pick t t') where
  fresh : All IsFresh (crashed pick t.numbers.entries t.entries.items)
  fresh = all_fresh pick t.numbers.entries t.entries.items (covered t is)

  pub table_crashed : IsIndexed t'
  table_crashed = record {
    table = record {
      entries = rw (h.names, h.contents, h.entries) (crashed_in (length t.names.items) (length t.contents.items) pick t.numbers.entries t.entries.items
          (numbers_in_range t is) is.table.entries);
      changes = rw h.changes (λ k d lt. absurd (omega arith));
      apart = rw (h.names, h.entries, names_crashed t.names.items t.contents.items pick t.numbers.entries t.entries.items) is.table.apart;
      linked = rw (h.names, h.contents, h.entries, h.changes) (λ i n. first_fresh t.names.items t.contents.items (crashed pick t.numbers.entries t.entries.items) n fresh i);
    };
    ordered = rw h.numbers is.ordered;
    numbers = rw (h.names, h.entries, h.numbers, names_crashed t.names.items t.contents.items pick t.numbers.entries t.entries.items) is.numbers;
    unsettled = unsettled_none t'.unsettled t'.entries.items h.unsettled (rw h.entries (All-weaker IsFresh _ settled_if_fresh (crashed pick t.numbers.entries t.entries.items) fresh))
        (rw (h.entries, h.room, length-crashed pick t.numbers.entries t.entries.items) is.unsettled.room);
  }
    where
      settled_if_fresh : (e : Entry) → IsFresh e → is_settled_place e.place ≡ true
      settled_if_fresh e f = rw f refl

  pub calm_after : any_unsettled (entries_of (rows_of t')) ≡ false
  calm_after = rw (h.names, h.contents, h.entries) (calm_fresh t.names.items t.contents.items (crashed pick t.numbers.entries t.entries.items) fresh)

  pub count_after : length t'.entries.items ≡ length t.entries.items
  count_after = rw h.entries (length-crashed pick t.numbers.entries t.entries.items)

  pub crashes : Crashes pick (table_disk (rows_of t)) (table_disk (rows_of t'))
  crashes = record {
    unsettled = open_names;
    ascending = IsStrictlySortedBy-filter bytes_cmp (λ m. not (is_settled (table_disk (rows_of t) m).mark)) (all_names t) (ascending t is);
    exact = λ n. (λ c. not-true (is_settled (table_disk (rows_of t) n).mark) (passed (λ m. not (is_settled (table_disk (rows_of t) m).mark)) (all_names t) n c), is_among n);
    left = rw (h.names, h.contents, h.entries) (λ i n. crashed_at string_bytes t.names.items t.contents.items (table_disk (rows_of t)) pick t.numbers.entries t.entries.items n (ascending t is) is.table.apart agree (missing n) i);
    image = picks_image pick open_names (table_disk (rows_of t));
  }
    where
      open_names : List Name
      open_names = unsettled_in string_bytes t.names.items t.contents.items (table_disk (rows_of t)) t.numbers.entries

      agree : All (Agrees string_bytes t.names.items t.contents.items (table_disk (rows_of t)) t.entries.items) t.numbers.entries
      agree k e lt =
          let at = placed t is k e lt in
          let p = get_or t.numbers.entries k e in
          record { within = at.0; name = at.1; stands = slot_at (rows_of t) (string_bytes p.0) p.1 is.table at }

      missing : (n : Name) → Lacks n (all_names t) → table_disk (rows_of t) n ≡ slot (table_disk (rows_of t) n).now disk.Settled
      missing n lacks = elim (among_or_none t is n) [
        | inl c ↦ absurd (lacks c.0 n c.1 (sym c.2))
        | inr none ↦ none ∙ ap (λ (s : Slot). slot s.now disk.Settled) (sym none)
      ]

      is_among : (n : Name) → is_settled (table_disk (rows_of t) n).mark ≡ false → Contains (unsettled_in string_bytes t.names.items t.contents.items (table_disk (rows_of t)) t.numbers.entries) n
      is_among n u = elim (among_or_none t is n) [
        | inl c ↦ passes (λ m. not (is_settled (table_disk (rows_of t) m).mark)) (all_names t) n c (ap not u)
        | inr none ↦ absurd (settled_there (sym (ap (λ (s : Slot). is_settled s.mark) none) ∙ u))
      ]
