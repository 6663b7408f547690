-- What a table has at a name.
use Rattle.std.proofs.Common.{◌≡◌, ◌≢◌, ℕ, ◌<◌, List, [], ◌∷◌, length, get_or, map, refl, ap, subst, sym, ◌∙◌}
use Rattle.std.proofs.Math.ListN as list
use Rattle.std.specs.declared.option.Option.{Option}
use Rattle.std.specs.declared.option.Option.TheVariants.{None, Some}
use Rattle.std.proofs.lemmas.List.Elements.{All-head, All-tail}
use Rattle.std.proofs.lemmas.List.{length-map, get_or_default, get_or-map}
use Rattle.std.proofs.lemmas.Option.{same_Some}
use Rattle.cv_vault.specs.Names.{Name}
use Rattle.cv_vault.specs.Disk as disk
use Rattle.cv_vault.specs.Disk.{Slot, slot}
use Rattle.cv_vault.specs.Events.{NamedSlot, value_at}
use Rattle.cv_vault.specs.EventsInner.{disk_of}
use Rattle.cv_vault.specs.Table.{name_in, Rows, named_in}
use Rattle.cv_vault.specs.TableInner.{names_in, Lacks, AreApart, any_entry, entry_at, IsEntryOf}
use Rattle.cv_vault.specs.IndexedInner.{AreNumbers}
use Rattle.cv_vault.specs.Places.{slot_in}
use Rattle.cv_vault.specs.declared.table.Entry.{Entry}
use Rattle.cv_vault.proofs.Values.{LacksPair, firsts, value_at-get, value_at-lacks}

-- names that have numbers differ
pub numbers_apart : (f : Name → Option ℕ) (ns : List Name) → AreNumbers f ns → AreApart ns
numbers_apart f ns h i j li lj e = same_Some _ _ (sym ((h (get_or ns j []) i).1 (li, e)) ∙ (h (get_or ns j []) j).1 (lj, refl))

-- a name without a number isn't there
pub numbers_lack : (f : Name → Option ℕ) (ns : List Name) (n : Name) → AreNumbers f ns → f n ≡ None → Lacks n ns
numbers_lack f ns n h none i d lt e = differ (sym none ∙ (h n i).1 (lt, sym (e ∙ get_or_default ns i d [] lt)))
  where
    differ : {i : ℕ} → None ≡ Some i → ⊥
    differ e = cc

abbrev pub pair_of : NamedSlot → Name × Slot
pair_of e = (e.name, e.stands)

module _ (names : List Name) (contents : List (List ℕ)) where
  abbrev pub resolved : List Entry → List NamedSlot
  resolved es = map (named_in names contents) es

  pub firsts-pairs : (es : List Entry) → firsts (map pair_of (resolved es)) ≡ names_in names es
  firsts-pairs [] = refl
  firsts-pairs (e ∷ es) = ap (λ ns. name_in names e.name ∷ ns) (firsts-pairs es)

  pub pairs_at : (es : List Entry) (i : ℕ) (d : Entry) → get_or (map pair_of (resolved es)) i (pair_of (named_in names contents d)) ≡ pair_of (named_in names contents (get_or es i d))
  pairs_at es i d = list.get_or-map pair_of (resolved es) i (named_in names contents d) ∙ ap pair_of (list.get_or-map (named_in names contents) es i d)

  pub length-pairs : (es : List Entry) → length (map pair_of (resolved es)) ≡ length es
  length-pairs es = length-map (resolved es) pair_of ∙ length-map es (named_in names contents)

  pub slot_found : (es : List Entry) (i : ℕ) (d : Entry) (n : Name) → AreApart (names_in names es) → i < length es → name_in names (get_or es i d).name ≡ n
      → disk_of (resolved es) n ≡ slot_in contents (get_or es i d).place
  slot_found es i d n differ lt is =
      let ps = map pair_of (resolved es) in
      let at = pairs_at es i d in
      let h = value_at-get (slot None disk.Settled) ps i (pair_of (named_in names contents d)) (rw (firsts-pairs es) differ) (rw (length-pairs es) lt) in
      subst (λ m. disk_of (resolved es) m ≡ slot_in contents (get_or es i d).place) is
      (subst (λ (p : Name × Slot). value_at (slot None disk.Settled) ps p.0 ≡ p.1) at h)

module _ (names : List Name) (contents : List (List ℕ)) where
  lacks : (es : List Entry) (n : Name) → Lacks n (names_in names es) → LacksPair n (map pair_of (resolved names contents es))
  lacks [] n h = tt
  lacks (e ∷ es) n h = (All-head (λ m. n ≢ m) (name_in names e.name) (names_in names es) h, lacks es n (All-tail (λ m. n ≢ m) (name_in names e.name) (names_in names es) h))

  pub slot_missing : (es : List Entry) (n : Name) → Lacks n (names_in names es) → disk_of (resolved names contents es) n ≡ slot None disk.Settled
  slot_missing es n h = value_at-lacks (slot None disk.Settled) (map pair_of (resolved names contents es)) n (lacks es n h)

-- an entry at the place of a name
module _ (t : Rows) where
  pub names_at : (n : Name) (i : ℕ) → (i < length (names_in t.names t.entries)) × (get_or (names_in t.names t.entries) i [] ≡ n) → IsEntryOf t n i
  names_at n i h =
      let f : Entry → Name = λ e. name_in t.names e.name in
      let lt : i < length t.entries = subst (λ k. i < k) (length-map t.entries f) h.0 in
      (lt, sym (get_or-map f t.entries i any_entry [] lt) ∙ h.1)

  pub at_names : (i : ℕ) → i < length t.entries
      → (i < length (names_in t.names t.entries)) × (get_or (names_in t.names t.entries) i [] ≡ name_in t.names (entry_at t i).name)
  at_names i lt =
      let f : Entry → Name = λ e. name_in t.names e.name in
      (subst (λ k. i < k) (sym (length-map t.entries f)) lt, get_or-map f t.entries i any_entry [] lt)
