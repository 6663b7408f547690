-- Nested entries and Transition rows.
use Rattle.std.proofs.Common.{◌≡◌, ◌≢◌, ℕ, ◌+◌, ◌<◌, Bool, true, false, ◌&&◌, ◌||◌, zero, suc, List, [], ◌∷◌, length, get_or, Option, Some, None, refl, sym, ap, subst, ◌∙◌, arith, MatchBool}
use Rattle.std.specs.Prelude.{Contains, bytes_eq}
use Rattle.std.specs.List.{HoldsAt, All, list_any}
use Rattle.std.specs.List.Sorted.{IsStrictlySortedBy}
use Rattle.std.proofs.lemmas.Slice.Eq.{bytes_eq-Decides}
use Rattle.cv_base.specs.Path.{Path, IsPath, key_of, same_path}
use Rattle.cv_base.proofs.Laws.{first_true, second_true, same_path-itself, same_path_is}
use Rattle.cv_rows.specs.Row.{same_kind}
use Rattle.cv_rows.specs.Places.{StandsAt}
use Rattle.cv_rows.specs.ParentsInner.{IsPlacing, HasPath}
use Rattle.cv_rows.specs.Catalogue.{row_cmp, FitsAt, IsTransitionAt, IsListed}
use Rattle.cv_rows.specs.Faults.{AllFit}
use Rattle.cv_rows.specs.NestedListInner.{is_transition, has_key, HasNested}
use Rattle.cv_rows.specs.declared.row.Row.{Row}
use Rattle.cv_rows.specs.declared.nested.Nested.{Nested}
use Rattle.cv_rows.specs.declared.row_kind.RowKind.{RowKind}
use Rattle.cv_rows.specs.declared.row_kind.RowKind.TheVariants.{Directory, Transition, NestedRoot, File, Link}
use Rattle.cv_rows.proofs.Sorting.{same_row}
use Rattle.cv_rows.proofs.PlaceLaws.{stands_contained, one_place, same_by_key}

-- a row that stands at a path fits it
pub fits_there : (at : Path) (rows : List Row) (r : Row) (q : Path) → IsStrictlySortedBy row_cmp rows → AllFit at rows → StandsAt at rows r q → FitsAt at r q
fits_there at rows r q sorted fit s =
    let has = stands_contained s in
    let f = fit has.0 r has.1 in
    let own : StandsAt at rows r f.0 = subst (λ (x : Row). StandsAt at rows x f.0) has.2 f.1 in
    subst (λ (p : Path). FitsAt at r p) (one_place sorted own s) (subst (λ (x : Row). FitsAt at x f.0) has.2 f.2)

transition_kind : (kind : RowKind) → same_kind kind Transition ≡ true → kind ≡ Transition
transition_kind Directory h = absurd cc
transition_kind Transition h = refl
transition_kind NestedRoot h = absurd cc
transition_kind File h = absurd cc
transition_kind Link h = absurd cc

and_false_ : (a b : Bool) → a ≡ true → b ≡ true → (a && b) ≡ false → ⊥
and_false_ true true ha hb h = cc
and_false_ true false ha hb h = cc
and_false_ false b ha hb h = cc

-- no row has the key of the path
pub no_transition : (at : Path) (rows : List Row) (path : Path) (key : List ℕ) → IsStrictlySortedBy row_cmp rows → AllFit at rows → key ≡ key_of path → ((r : Row) → Contains rows r → r.key.0 ≢ key) → IsTransitionAt at rows path → ⊥
no_transition at rows path key sorted fit key-is none t =
    none t.row (stands_contained t.stands) ((fits_there at rows t.row path sorted fit t.stands).key ∙ sym key-is)

-- the row with the key of the path is its Transition row, or there is none
pub transition_is : (at : Path) (rows : List Row) (top : ℕ) (parents : List ℕ) (i : ℕ) (r : Row) (path : Path) (key : List ℕ) (found : Option Path) → IsPlacing at rows top parents → AllFit at rows → i < length rows
    → r ≡ get_or rows i r → key ≡ key_of path → HoldsAt (λ x. x.key.0 ≡ key) rows i → HasPath at rows i found → (is : Bool) → is ≡ is_transition r found path → MatchBool is (IsTransitionAt at rows path) (IsTransitionAt at rows path → ⊥)
transition_is at rows top parents i r path key found placing fit lt r-is key-is holds has true is = is_one found has is
  where
    is_one : (found : Option Path) → HasPath at rows i found → true ≡ is_transition r found path → IsTransitionAt at rows path
    is_one None has is = absurd cc
    is_one (Some q) has is =
        let kind = transition_kind r.kind (first_true (same_kind r.kind Transition) (same_path q path) (sym is)) in
        let same : q ≡ path = same_path_is q path (second_true (same_kind r.kind Transition) (same_path q path) (sym is)) in
        record { row = r; kind = kind; stands = subst (λ (x : Row). StandsAt at rows x path) (sym r-is) (subst (λ (p : Path). StandsAt at rows (get_or rows i r) p) same (has.1 r)) }
transition_is at rows top parents i r path key found placing fit lt r-is key-is holds has false is = λ t.
    let fits = fits_there at rows t.row path placing.ordered fit t.stands in
    let same : get_or rows i r ≡ t.row = same_row rows i r t.row placing.ordered lt (stands_contained t.stands) (holds r ∙ key-is ∙ sym fits.key) in
    let stands : StandsAt at rows (get_or rows i r) path = subst (λ (x : Row). StandsAt at rows x path) (sym same) t.stands in
    let kind : r.kind ≡ Transition = ap (λ (x : Row). x.kind) (r-is ∙ same) ∙ t.kind in
    not_one found has stands fits.path kind is
  where
    not_one : (found : Option Path) → HasPath at rows i found → StandsAt at rows (get_or rows i r) path → IsPath path → r.kind ≡ Transition → false ≡ is_transition r found path → ⊥
    not_one None has stands is_path kind is = has r path stands is_path
    not_one (Some q) has stands is_path kind is =
        let same : path ≡ q = one_place placing.ordered stands (has.1 r) in
        let first : same_kind r.kind Transition ≡ true = ap (λ (k : RowKind). same_kind k Transition) kind in
        let second : same_path q path ≡ true = subst (λ (p : Path). same_path q p ≡ true) (sym same) (same_path-itself q) in
        and_false_ (same_kind r.kind Transition) (same_path q path) first second (sym is)

-- an element that passes a test is there
pub some_passes : (nested : List Nested) (key : List ℕ) → has_key nested key ≡ true → (n : Nested) × Contains nested n × (key_of n.path ≡ key)
some_passes [] key h = absurd cc
some_passes (n ∷ nested) key h =
    elim (bytes_eq (key_of n.path) key) as (λ t. bytes_eq (key_of n.path) key ≡ t → (m : Nested) × Contains (n ∷ nested) m × (key_of m.path ≡ key)) [
      | true ↦ λ e. (n, (0, omega arith, refl), (bytes_eq-Decides (key_of n.path) key).0 e)
      | false ↦ λ e.
          let rest = some_passes nested key (without e h) in
          let at = rest.1 in
          (rest.0, (at.0 + 1, omega arith, later at.0 rest.0 at.2), rest.2)
    ] refl
  where
    without : bytes_eq (key_of n.path) key ≡ false → list_any (λ m. bytes_eq (key_of m.path) key) (n ∷ nested) ≡ true → has_key nested key ≡ true
    without e h = rw e at h

    later : (k : ℕ) (m : Nested) → get_or nested k m ≡ m → get_or (n ∷ nested) (k + 1) m ≡ m
    later k m is = let e : k + 1 ≡ suc k = omega arith in rw e is

pub key_passes : (nested : List Nested) (k : ℕ) (n : Nested) → k < length nested → get_or nested k n ≡ n → has_key nested (key_of n.path) ≡ true
key_passes [] k n lt is = absurd (omega arith)
key_passes (m ∷ nested) zero n lt is = rw ((bytes_eq-Decides (key_of m.path) (key_of n.path)).1 (ap (λ (x : Nested). key_of x.path) is)) refl
key_passes (m ∷ nested) (suc k) n lt is = rw (key_passes nested k n (omega arith) is) (or_true (bytes_eq (key_of m.path) (key_of n.path)))
  where
    or_true : (b : Bool) → (b || true) ≡ true
    or_true true = refl
    or_true false = refl

-- a row has a nested entry where its key is that of one
pub listed_is : (at : Path) (rows : List Row) (nested : List Nested) (r : Row) → IsStrictlySortedBy row_cmp rows → AllFit at rows → All (λ n. IsTransitionAt at rows n.path) nested → Contains rows r → HasNested nested r → IsListed at rows nested r
listed_is at rows nested r sorted fit named has h kind =
    let found = some_passes nested r.key.0 (h kind) in
    let at_n = found.1 in
    let t : IsTransitionAt at rows found.0.path = subst (λ (n : Nested). IsTransitionAt at rows n.path) at_n.2 (named at_n.0 found.0 at_n.1) in
    let same : t.row ≡ r = same_by_key rows t.row r sorted (stands_contained t.stands) has ((fits_there at rows t.row found.0.path sorted fit t.stands).key ∙ found.2) in
    (found.0, at_n, subst (λ (x : Row). StandsAt at rows x found.0.path) same t.stands)

pub listed_has : (at : Path) (rows : List Row) (nested : List Nested) (r : Row) → IsStrictlySortedBy row_cmp rows → AllFit at rows → IsListed at rows nested r → HasNested nested r
listed_has at rows nested r sorted fit h kind =
    let l = h kind in
    let n = l.1 in
    subst (λ (key : List ℕ). has_key nested key ≡ true) (sym (fits_there at rows r l.0.path sorted fit l.2).key) (key_passes nested n.0 l.0 n.1 n.2)
