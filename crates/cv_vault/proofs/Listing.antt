-- The names of a table that are listed.
use Rattle.std.proofs.Common.{Global, ap, sym, ◌≡◌, inl, inr, Bool, true, false, ◌&&◌, is_some, nat_eq, List, [], ◌∷◌, ◌++◌, ℕ, refl, subst, ◌∙◌, append_assoc}
use Rattle.std.specs.Prelude.{IsSome, IsTrue}
use Rattle.std.specs.Prelude.{String}
use Rattle.std.specs.List.{All, Contains, filter, starts_with}
use Rattle.std.specs.List.Sorted.{IsStrictlySortedBy}
use Rattle.std.specs.BTreeMap.Range.{entries_between, range_contains}
use Rattle.std.specs.String.{string_bytes, string_cmp}
use Rattle.std.specs.declared.ops.Bound.TheVariants.{Included, Unbounded}
use Rattle.std.proofs.lemmas.Bool.{and_parts}
use Rattle.std.proofs.lemmas.List.Elements.{All-filter, All-head, All-tail, filter_passes}
use Rattle.std.proofs.lemmas.List.{append-nil}
use Rattle.std.proofs.lemmas.List.Kept.{IsStrictlySortedBy-filter}
use Rattle.cv_base.specs.BytesOrder.{bytes_cmp}
use Rattle.cv_base.proofs.Laws.{not_there}
use Rattle.cv_vault.specs.Names.{Name}
use Rattle.cv_vault.specs.Disk as disk
use Rattle.cv_vault.specs.Disk.{Slot, IsListing}
use Rattle.cv_vault.specs.Table.{Rows}
use Rattle.cv_vault.specs.TableInner.{entry_at, is_listed, IsEntryOf, table_disk, IsTable}
use Rattle.cv_vault.specs.IndexedInner.{rows_of, IsIndexed}
use Rattle.cv_vault.specs.declared.table.Table.TheInside.{Inside}
use Rattle.cv_vault.proofs.Ordered.{names_of, all_names, ascending, among_or_none, passes, passed, placed}
use Rattle.cv_vault.proofs.Steps.{slot_at, present, missing}
use Rattle.cv_vault.proofs.Prefixes.{is_from, names_from, none_before, none_past}

module _ (t : Inside) (is : IsIndexed t) (prefix : Name) where
  abbrev pub listed : List Name
  listed = filter (is_listed (table_disk (rows_of t)) prefix) (all_names t)

  listed_is : (n : Name) → Contains listed n → IsTrue (starts_with nat_eq n prefix) × IsSome (table_disk (rows_of t) n).now
  listed_is n h =
      let parts = and_parts (is_some (table_disk (rows_of t) n).now) (starts_with nat_eq n prefix) (passed (is_listed (table_disk (rows_of t)) prefix) (all_names t) n h) in
      (parts.1, parts.0)

  is_there : (n : Name) → IsTrue (starts_with nat_eq n prefix) × IsSome (table_disk (rows_of t) n).now → Contains listed n
  is_there n h = elim (among_or_none t is n) [
    | inl c ↦ passes (is_listed (table_disk (rows_of t)) prefix) (all_names t) n c (rw (h.1, h.0) refl)
    | inr none ↦ absurd (not_there _ (ap (λ (s : Slot). s.now) none) h.1)
  ]

  pub listing : IsListing (table_disk (rows_of t)) prefix listed
  listing = record { ascending = IsStrictlySortedBy-filter bytes_cmp (is_listed (table_disk (rows_of t)) prefix) (all_names t) (ascending t is); exact = λ n. (listed_is n, is_there n) }

-- the names that a loop still goes over: in ascending order, none before the prefix, each with the number of its entry
pub record AreLeft (t : Rows) (prefix : Name) {Y : Type 0} (ps : List (String Y × ℕ)) : Type 0 where
  pub placed : All (λ p. IsEntryOf t (string_bytes p.0) p.1) ps
  pub from : All (λ n. is_from prefix n ≡ true) (names_of string_bytes ps)
  pub ascending : IsStrictlySortedBy bytes_cmp (names_of string_bytes ps)

-- a name that doesn't begin so isn't listed
not_listed : (d : disk.Disk) (prefix n : Name) → starts_with nat_eq n prefix ≡ false → is_listed d prefix n ≡ false
not_listed d prefix n other = by (is_some (d n).now)
  where
    by : (b : Bool) → (b && starts_with nat_eq n prefix) ≡ false
    by true = other
    by false = refl

module _ (t : Rows) {Y : Type 0} where
  -- what is left behind the first name
  pub left_next : (prefix : Name) (p : String Y × ℕ) (ps : List (String Y × ℕ)) → AreLeft t prefix (p ∷ ps) → AreLeft t prefix ps
  unfolding IsStrictlySortedBy
  left_next prefix p ps h = record {
    placed = All-tail (λ q. IsEntryOf t (string_bytes q.0) q.1) p ps h.placed;
    from = All-tail (λ n. is_from prefix n ≡ true) (string_bytes p.0) (names_of string_bytes ps) h.from;
    ascending = h.ascending.1;
  }

  -- where the first name doesn't begin so, nothing that is left is listed
  pub left_past : (prefix : Name) (p : String Y × ℕ) (ps : List (String Y × ℕ)) → AreLeft t prefix (p ∷ ps) → starts_with nat_eq (string_bytes p.0) prefix ≡ false
      → filter (is_listed (table_disk t) prefix) (names_of string_bytes (p ∷ ps)) ≡ []
  unfolding IsStrictlySortedBy
  left_past prefix p ps h other = none_past prefix (is_listed (table_disk t) prefix) (not_listed (table_disk t) prefix) (string_bytes p.0) (names_of string_bytes ps)
      (All-head (λ n. is_from prefix n ≡ true) (string_bytes p.0) (names_of string_bytes ps) h.from) other h.ascending.0

module _ (t : Rows) (is : IsTable t) where
  -- whether a name that begins so is listed, by its entry
  pub listed_by : (prefix n : Name) (i : ℕ) (b : Bool) → IsEntryOf t n i → starts_with nat_eq n prefix ≡ true → is_some (entry_at t i).place.now ≡ b → is_listed (table_disk t) prefix n ≡ b
  listed_by prefix n i true at begins there =
      let file : is_some (table_disk t n).now ≡ true = subst (λ (s : Slot). IsSome s.now) (sym (slot_at t n i is at)) (present t.contents (entry_at t i).place.now there) in
      rw file begins
  listed_by prefix n i false at begins there = rw (ap (λ (s : Slot). s.now) (slot_at t n i is at) ∙ missing t.contents (entry_at t i).place.now there) refl

module _ (t : Inside) (is : IsIndexed t) where
  module _ (first : String Global) (prefix : Name) (begins : string_bytes first ≡ prefix) (ps : List (String Global × ℕ)) (from : ps ≡ entries_between string_cmp (Included first) Unbounded t.numbers.entries) where
    names_are : names_of string_bytes ps ≡ filter (is_from prefix) (all_names t)
    names_are = rw (from, ← begins) (names_from first t.numbers.entries)

    -- what is left at first: the names from the prefix on
    pub left_first : AreLeft (rows_of t) prefix ps
    left_first = record {
      placed = rw from (All-filter (λ e. range_contains string_cmp (Included first) Unbounded e.0) (λ p. IsEntryOf (rows_of t) (string_bytes p.0) p.1) t.numbers.entries (placed t is));
      from = rw names_are (filter_passes (is_from prefix) (all_names t));
      ascending = rw names_are (IsStrictlySortedBy-filter bytes_cmp (is_from prefix) (all_names t) (ascending t is));
    }

    -- all that are listed are among them
    pub all_left : filter (is_listed (table_disk (rows_of t)) prefix) (names_of string_bytes ps) ≡ listed t is prefix
    all_left = rw names_are (none_before prefix (is_listed (table_disk (rows_of t)) prefix) (not_listed (table_disk (rows_of t)) prefix) (all_names t))

-- the names that are listed so far are all, once the rest has none
pub complete : (f : Name → Bool) (done rest : List Name) → filter f rest ≡ [] → done ++ filter f rest ≡ done
complete f done rest none = rw none (append-nil done)

-- a loop over the names has come to one that passes, or doesn't
pub kept_step : (f : Name → Bool) (done : List Name) (n : Name) (rest : List Name) → f n ≡ true → (done ++ n ∷ []) ++ filter f rest ≡ done ++ filter f (n ∷ rest)
kept_step f done n rest e = append_assoc done (n ∷ []) (filter f rest) ∙ (rw e refl)

pub skipped_step : (f : Name → Bool) (done : List Name) (n : Name) (rest : List Name) → f n ≡ false → done ++ filter f rest ≡ done ++ filter f (n ∷ rest)
skipped_step f done n rest e = rw e refl
