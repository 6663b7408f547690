-- The names of a table in ascending order, and those that pass a test.
use Rattle.std.proofs.Common.{◌≡◌, ◌⊎◌, inl, inr, ℕ, zero, suc, ◌<◌, Bool, true, false, cond, List, [], ◌∷◌, length, get_or, map, refl, subst, sym, arith}
use Rattle.std.specs.List.{All, AllByRecursion, Contains, filter}
use Rattle.std.specs.List.Sorted.{IsStrictlySortedBy}
use Rattle.std.specs.BTreeMap.{get_by_text, is_at}
use Rattle.std.specs.Map.{lookup}
use Rattle.std.specs.Prelude.{String}
use Rattle.std.specs.String.{string_bytes, string_cmp, string_cmp_total}
use Rattle.std.specs.declared.option.Option.{Option}
use Rattle.std.specs.declared.option.Option.TheVariants.{None, Some}
use Rattle.std.specs.declared.cmp.Ordering.TheVariants.{Less}
use Rattle.std.proofs.lemmas.List.Elements.{All-contains, All-weaker, filter_passes}
use Rattle.std.proofs.lemmas.Map.Views.{All-found}
use Rattle.std.proofs.lemmas.Option.{same_Some}
use Rattle.cv_base.specs.BytesOrder.{bytes_cmp}
use Rattle.cv_vault.specs.Names.{Name, same_name}
use Rattle.cv_vault.specs.Disk as disk
use Rattle.cv_vault.specs.Disk.{slot}
use Rattle.cv_vault.specs.Table.{name_in}
use Rattle.cv_vault.specs.TableInner.{names_in, entry_at, IsEntryOf, table_disk}
use Rattle.cv_vault.specs.IndexedInner.{rows_of, IsIndexed}
use Rattle.cv_vault.specs.declared.table.Table.TheInside.{Inside}
use Rattle.cv_vault.proofs.Names.{same_name_is}
use Rattle.cv_vault.proofs.Reading.{slot_missing, numbers_lack, names_at, at_names}

-- the names of a list of pairs
abbrev pub names_of : {K : Type 0} (key : K → Name) → List (K × ℕ) → List Name
names_of {K} key ps = map (λ (p : K × ℕ). key p.0) ps

contains_later : {X : Type 0} (x y : X) (xs : List X) → Contains xs y → Contains (x ∷ xs) y
contains_later x y xs h = (suc h.0, (let lt = h.1 in omega arith), h.2)

kept : (p : Name → Bool) (ns : List Name) (i : ℕ) (d : Name) → i < length ns → p (get_or ns i d) ≡ true → Contains (filter p ns) (get_or ns i d)
kept p [] i d lt h = absurd (omega arith)
kept p (n ∷ ns) zero d lt h = rw h (0, omega arith, refl)
kept p (n ∷ ns) (suc i) d lt h =
    let later : Contains (filter p ns) (get_or ns i d) = kept p ns i d (omega arith) h in
    elim (p n) as (λ b. Contains (cond b (n ∷ filter p ns) (filter p ns)) (get_or ns i d)) [ true ↦ contains_later n (get_or ns i d) (filter p ns) later | false ↦ later ]

-- a name that passes is kept
pub passes : (p : Name → Bool) (ns : List Name) (n : Name) → Contains ns n → p n ≡ true → Contains (filter p ns) n
passes p ns n c h = subst (λ m. Contains (filter p ns) m) c.2 (kept p ns c.0 n c.1 (subst (λ m. p m ≡ true) (sym c.2) h))

-- a name that is kept passes
pub passed : (p : Name → Bool) (ns : List Name) (n : Name) → Contains (filter p ns) n → p n ≡ true
passed p ns n c = All-contains (λ m. p m ≡ true) (filter p ns) n (filter_passes p ns) c

at_key : {Y : Type 0} (es : List (String Y × ℕ)) (n : Name) (i : ℕ) → lookup (is_at (λ (k : String Y). bytes_cmp n (string_bytes k))) es ≡ Some i
    → Contains (names_of string_bytes es) n × Contains (map (λ (p : String Y × ℕ). p.1) es) i
at_key [] n i e = cc
at_key {Y} (p ∷ es) n i e = by (same_name n (string_bytes p.0)) refl e (at_key es n i)
  where
    by : (b : Bool) → same_name n (string_bytes p.0) ≡ b → cond b (Some p.1) (lookup (is_at (λ (k : String Y). bytes_cmp n (string_bytes k))) es) ≡ Some i
        → (lookup (is_at (λ (k : String Y). bytes_cmp n (string_bytes k))) es ≡ Some i → Contains (names_of string_bytes es) n × Contains (map (λ (p : String Y × ℕ). p.1) es) i)
        → Contains (names_of string_bytes (p ∷ es)) n × Contains (map (λ (p : String Y × ℕ). p.1) (p ∷ es)) i
    by true same e later = ((0, omega arith, sym (same_name_is n (string_bytes p.0) same)), (0, omega arith, same_Some _ _ e))
    by false other e later =
        let rest = later e in
        (contains_later (string_bytes p.0) n (names_of string_bytes es) rest.0, contains_later p.1 i (map (λ (p : String Y × ℕ). p.1) es) rest.1)

all_bytes : {Y : Type 0} (k : String Y) (es : List (String Y × ℕ)) → AllByRecursion (λ (x : String Y). string_cmp k x ≡ Less) (map (λ (p : String Y × ℕ). p.0) es)
    → AllByRecursion (λ m. bytes_cmp (string_bytes k) m ≡ Less) (names_of string_bytes es)
all_bytes k [] h = tt
all_bytes k (p ∷ es) h = (h.0, all_bytes k es h.1)

sorted_bytes : {Y : Type 0} (es : List (String Y × ℕ)) → IsStrictlySortedBy string_cmp (map (λ (p : String Y × ℕ). p.0) es) → IsStrictlySortedBy bytes_cmp (names_of string_bytes es)
unfolding IsStrictlySortedBy
sorted_bytes [] h = tt
sorted_bytes (p ∷ es) h = (all_bytes p.0 es h.0, sorted_bytes es h.1)

module _ (t : Inside) where
  abbrev pub all_names : List Name
  all_names = names_of string_bytes t.numbers.entries

module _ (t : Inside) (is : IsIndexed t) where
  pub ascending : IsStrictlySortedBy bytes_cmp (all_names t)
  ascending = sorted_bytes t.numbers.entries is.ordered

  -- each name stands with the number of its entry
  pub placed : All (λ p. IsEntryOf (rows_of t) (string_bytes p.0) p.1) t.numbers.entries
  placed = All-weaker (λ p. get_by_text t.numbers (string_bytes p.0) ≡ Some p.1) (λ p. IsEntryOf (rows_of t) (string_bytes p.0) p.1)
      (λ p e. names_at (rows_of t) (string_bytes p.0) p.1 ((is.numbers (string_bytes p.0) p.1).0 e)) t.numbers.entries (All-found string_cmp_total t.numbers is.ordered)

  pub numbers_in_range : All (λ p. p.1 < length t.entries.items) t.numbers.entries
  numbers_in_range = λ k d lt. (placed k d lt).0

  -- the number of each entry stands with its name
  pub covered : (i : ℕ) → i < length t.entries.items → Contains (map (λ p. p.1) t.numbers.entries) i
  covered i lt = (at_key t.numbers.entries (name_in t.names.items (entry_at (rows_of t) i).name) i ((is.numbers (name_in t.names.items (entry_at (rows_of t) i).name) i).1 (at_names (rows_of t) i lt))).1

  -- a name is among them, or nothing stands there
  pub among_or_none : (n : Name) → Contains (all_names t) n ⊎ (table_disk (rows_of t) n ≡ slot None disk.Settled)
  among_or_none n = by (get_by_text t.numbers n) refl
    where
      by : (r : Option ℕ) → get_by_text t.numbers n ≡ r → Contains (all_names t) n ⊎ (table_disk (rows_of t) n ≡ slot None disk.Settled)
      by None e = inr (slot_missing t.names.items t.contents.items t.entries.items n (numbers_lack (get_by_text t.numbers) (names_in t.names.items t.entries.items) n is.numbers e))
      by (Some i) e = inl ((at_key t.numbers.entries n i e).0)
