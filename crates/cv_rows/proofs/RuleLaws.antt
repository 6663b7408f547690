-- A catalogue breaks no rule, and what breaks none is one.
use Rattle.std.proofs.Common.{◌≡◌, ℕ, ◌-◌, ◌<◌, ◌≤◌, List, [], ◌∷◌, length, get_or, Result, Ok, Err, sym, ap, subst, ◌∙◌, arith, inl, inr}
use Rattle.std.specs.Prelude.{Contains}
use Rattle.std.specs.declared.cmp.Ordering.{Ordering}
use Rattle.std.specs.List.{HoldsAt, All}
use Rattle.std.specs.List.Sorted.{IsStrictlySortedBy}
use Rattle.std.proofs.lemmas.List.Elements.{Contains-get_or}
use Rattle.std.proofs.lemmas.Map.Keys.{Less-from_sorted}
use Rattle.hex.specs.Hex.{IsBytes}
use Rattle.cv_base.specs.Path.{Path, IsPath}
use Rattle.cv_base.specs.Unless.{IsUnless}
use Rattle.cv_base.proofs.Laws.{ok_is}
use Rattle.cv_rows.specs.Places.{IsRoot, StandsAt, root}
use Rattle.cv_rows.specs.Catalogue.{Contents, IsCatalogue, IsMarkedWell, IsTransitionAt, IsListed, row_cmp, nested_cmp, file_of, catalogue_bytes}
use Rattle.cv_rows.specs.Faults.{IsFirst, IsFirstDisorder, IsFirstOrphan, IsMisplaced, AreOrdered, AllStand, AllFit, IsRuleFault, IsFaultOf, IsFirstFault}
use Rattle.cv_rows.specs.FaultsInner.{KeepsRules}
use Rattle.cv_rows.specs.Reading.{Entries, entries_of}
use Rattle.cv_rows.specs.declared.row.Row.{Row}
use Rattle.cv_rows.specs.declared.nested.Nested.{Nested}
use Rattle.cv_rows.specs.declared.row_fault.RowFault.{RowFault}
use Rattle.cv_rows.specs.declared.row_fault.RowFault.TheVariants.{Short, BadMagic, BadField, Order, BadKey, Orphan, Marker, NestedList, TrailingBytes, TooLarge, NoMemory}
use Rattle.cv_rows.specs.ParentsInner.{AreParents, IsPlacing}
use Rattle.cv_rows.specs.NestedListInner.{HasNested}
use Rattle.cv_rows.proofs.Sizes.{nested_le}
use Rattle.cv_rows.proofs.NestedLaws.{fits_there, listed_is, listed_has}
use Rattle.cv_rows.proofs.FileLaws.{HasFile, file_takes, file_reads}

-- an element at an index
pub some_element : {X : Type 0} (xs : List X) (i : ℕ) → i < length xs → X
some_element [] i lt = absurd (omega arith)
some_element (x ∷ xs) i lt = x

-- what is sorted isn't out of order anywhere
pub no_disorder : {X : Type 0} (cmp : X → X → Ordering) (xs : List X) (i : ℕ) → IsStrictlySortedBy cmp xs → IsFirstDisorder cmp xs i → ⊥
no_disorder cmp xs i sorted first =
    let d = some_element xs i first.within in
    let later = first.later in
    let within = first.within in
    first.here d (Less-from_sorted cmp xs (i - 1) i d sorted (omega arith) within)

pub no_first : {X : Type 0} (Bad : X → Type 0) (xs : List X) (i : ℕ) → ((k : ℕ) (d : X) → k < length xs → Bad (get_or xs k d) → ⊥) → IsFirst Bad xs i → ⊥
no_first Bad xs i none first = let d = some_element xs i first.within in none i d first.within (first.here d)

-- ---- a rule that is kept isn't broken

pub order_none : (rows : List Row) (nested : List Nested) (i : ℕ) → AreOrdered rows nested → (at : Path) → IsRuleFault at rows nested (Order i) → ⊥
order_none rows nested i ordered at (inl f) = no_disorder row_cmp rows i ordered.0 f
order_none rows nested i ordered at (inr f) = no_disorder nested_cmp nested f.1.0 ordered.1 f.1.2

pub orphan_none : (at : Path) (rows : List Row) (i : ℕ) → AllStand at rows → IsFirstOrphan at rows i → ⊥
orphan_none at rows i stand (inl none) = none.0 stand.root.0 stand.root.1 stand.root.2
orphan_none at rows i stand (inr first) = no_first _ rows i (λ k d lt orphan. let p = stand.each k d lt in orphan p.0 p.1) first.1

pub misplaced_none : (at : Path) (rows : List Row) (i : ℕ) → IsStrictlySortedBy row_cmp rows → AllFit at rows → IsFirst (IsMisplaced at rows) rows i → ⊥
misplaced_none at rows i sorted fit = no_first _ rows i (λ k d lt bad. bad.2 (fits_there at rows (get_or rows k d) bad.0 sorted fit bad.1))

pub marked_none : (at : Path) (rows : List Row) (i : ℕ) → All (IsMarkedWell at rows) rows → IsFirst (λ r. IsMarkedWell at rows r → ⊥) rows i → ⊥
marked_none at rows i marked = no_first _ rows i (λ k d lt bad. bad (marked k d lt))

pub named_none : (at : Path) (rows : List Row) (nested : List Nested) (i : ℕ) → All (λ n. IsTransitionAt at rows n.path) nested → IsFirst (λ n. IsTransitionAt at rows n.path → ⊥) nested i → ⊥
named_none at rows nested i named = no_first _ nested i (λ k d lt bad. bad (named k d lt))

-- a catalogue has none of the faults
pub no_fault : (c : Contents) (fault : RowFault) → IsCatalogue c → IsRuleFault c.at c.rows c.nested fault → ⊥
no_fault c (Order i) is f = order_none c.rows c.nested i (is.ordered, is.nested_ordered) c.at f
no_fault c (Orphan i) is f =
    orphan_none c.at c.rows i (record { root = is.region.root; each = λ k d lt. let p = is.region.placed k d lt in (p.0, p.1) }) f.1
no_fault c (BadKey i) is f = misplaced_none c.at c.rows i is.ordered is.region.placed f.2
no_fault c (Marker i) is f = marked_none c.at c.rows i is.region.marked f.3
no_fault c (NestedList i) is f = elim f.4 [
  | inl first ↦ named_none c.at c.rows c.nested i is.region.named first
  | inr last ↦
      let bad = last.2 in
      let has = bad.1 in
      bad.2 (subst (λ (r : Row). IsListed c.at c.rows c.nested r) has.2 (is.region.listed has.0 bad.0 has.1))
]
no_fault c Short is f = f
no_fault c BadMagic is f = f
no_fault c (BadField i) is f = f
no_fault c TrailingBytes is f = f
no_fault c TooLarge is f = f
no_fault c NoMemory is f = f

pub has_file : (c : Contents) → IsCatalogue c → HasFile c.rows c.nested
has_file c is = record { spelled = is.region.spelled; nested_spelled = is.region.nested_spelled; count = is.count; size = is.size }

-- the bytes of a catalogue are read as its rows and nested entries
catalogue_reads : (c : Contents) (bytes : List ℕ) → IsCatalogue c → bytes ≡ catalogue_bytes c → entries_of bytes ≡ Ok (c.rows, c.nested)
catalogue_reads c bytes is spelled = ap entries_of spelled ∙ file_reads c.rows c.nested (has_file c is)

fault_of_catalogue : (c : Contents) (bytes : List ℕ) (at : Path) (fault : RowFault) → IsCatalogue c → c.at ≡ at → bytes ≡ catalogue_bytes c → IsFaultOf at (entries_of bytes) fault → ⊥
fault_of_catalogue c bytes at fault is place spelled f =
    no_fault c fault is (subst (λ (p : Path). IsRuleFault p c.rows c.nested fault) (sym place) (subst (λ (e : Result Entries RowFault). IsFaultOf at e fault) (catalogue_reads c bytes is spelled) f))

-- the bytes of a catalogue have no fault but want of memory
pub no_first_fault : (c : Contents) (bytes : List ℕ) (at : Path) (fault : RowFault) → IsFirstFault bytes at fault → IsCatalogue c → c.at ≡ at → bytes ≡ catalogue_bytes c → IsUnless NoMemory (Err fault) (Ok c)
no_first_fault c bytes at fault (inl lack) is place spelled = inl lack
no_first_fault c bytes at fault (inr f) is place spelled = absurd (fault_of_catalogue c bytes at fault is place spelled f)

-- the catalogue of these rows and nested entries
abbrev pub contents : Path → List Row → List Nested → Contents
contents at rows nested = record { at = at; rows = rows; nested = nested }

-- what was read and keeps all rules is a catalogue
pub catalogue_is : (bytes : List ℕ) (at : Path) (rows : List Row) (nested : List Nested) → IsBytes bytes → entries_of bytes ≡ Ok (rows, nested) → KeepsRules at rows nested → IsCatalogue (contents at rows nested) × (bytes ≡ file_of rows nested)
catalogue_is bytes at rows nested fits reads keeps =
    let taken = file_takes bytes rows nested fits reads in
    let top = keeps.stand.root in
    let place : IsPath at = (fits_there at rows top.0 at keeps.ordered.0 keeps.fit (root top.1 top.2)).path in (
      record {
        region = record {
          place = place;
          spelled = taken.0.spelled;
          nested_spelled = taken.0.nested_spelled;
          root = top;
          placed = keeps.fit;
          marked = keeps.marked;
          named = keeps.named;
          listed = keeps.listed;
        };
        ordered = keeps.ordered.0;
        nested_ordered = keeps.ordered.1;
        count = taken.0.count;
        size = taken.0.size;
      },
      taken.1,
    )

-- what was read is the one catalogue with these bytes
pub only_catalogue : (c : Contents) (bytes : List ℕ) (at : Path) (rows : List Row) (nested : List Nested) → entries_of bytes ≡ Ok (rows, nested) → IsCatalogue c → c.at ≡ at → bytes ≡ catalogue_bytes c → contents at rows nested ≡ c
only_catalogue c bytes at rows nested reads is place spelled =
    let x : Entries = (rows, nested) in
    let y : Entries = (c.rows, c.nested) in
    let both : x ≡ y = ok_is x y (sym reads ∙ catalogue_reads c bytes is spelled) in
    ap (λ (e : Entries). contents at e.0 e.1) both ∙ ap (λ (p : Path). contents p c.rows c.nested) (sym place)

-- the root row is there
pub root_there : (at : Path) (rows : List Row) (top : ℕ) → top < length rows → HoldsAt (IsRoot at) rows top → (r : Row) × Contains rows r × IsRoot at r
root_there at rows top lt is = let d = some_element rows top lt in (get_or rows top d, Contains-get_or rows top d lt, is d)

-- the index of the root row and the parents place rows in order
pub placing : (at : Path) (rows : List Row) (nested : List Nested) (top : ℕ) (parents items : List ℕ) → AreOrdered rows nested → top < length rows → HoldsAt (IsRoot at) rows top → AreParents rows top items → parents ≡ items → IsPlacing at rows top parents
placing at rows nested top parents items ordered inside is_root are same = record {
  ordered = ordered.0;
  inside = inside;
  is_root = is_root;
  are = subst (λ (ps : List ℕ). AreParents rows top ps) (sym same) are;
}

pub all_stand : (at : Path) (rows : List Row) (top : ℕ) → top < length rows → HoldsAt (IsRoot at) rows top → All (λ r. (q : Path) × StandsAt at rows r q) rows → AllStand at rows
all_stand at rows top lt is stand = record { root = root_there at rows top lt is; each = stand }

-- a Transition row whose key no nested entry has, has none
pub unlisted : (at : Path) (rows : List Row) (nested : List Nested) (i : ℕ) → AreOrdered rows nested → AllFit at rows → IsFirst (λ r. HasNested nested r → ⊥) rows i → (r : Row) × Contains rows r × (IsListed at rows nested r → ⊥)
unlisted at rows nested i ordered fit first =
    let d = some_element rows i first.within in
    (get_or rows i d, Contains-get_or rows i d first.within, λ listed. first.here d (listed_has at rows nested (get_or rows i d) ordered.0 fit listed))

pub keeps : (at : Path) (rows : List Row) (nested : List Nested) → AreOrdered rows nested → AllStand at rows → AllFit at rows → All (IsMarkedWell at rows) rows → All (λ n. IsTransitionAt at rows n.path) nested → All (HasNested nested) rows → KeepsRules at rows nested
keeps at rows nested ordered stand fit marked named has = record {
  ordered = ordered;
  stand = stand;
  fit = fit;
  marked = marked;
  named = named;
  listed = λ k d lt. listed_is at rows nested (get_or rows k d) ordered.0 fit named (Contains-get_or rows k d lt) (has k d lt);
}

-- what was read is within the limits
pub few_rows : (bytes : List ℕ) (rows read : List Row) (nested : List Nested) → IsBytes bytes → entries_of bytes ≡ Ok (rows, nested) → read ≡ rows → length read ≤ 50000
few_rows bytes rows read nested fits reads same = omega (arith, (file_takes bytes rows nested fits reads).0.count, ap length same)

pub few_nested : (bytes : List ℕ) (rows : List Row) (nested read : List Nested) → IsBytes bytes → entries_of bytes ≡ Ok (rows, nested) → read ≡ nested → length read ≤ 16777216
few_nested bytes rows nested read fits reads same = omega (arith, (file_takes bytes rows nested fits reads).0.size, nested_le rows nested, ap length same)
