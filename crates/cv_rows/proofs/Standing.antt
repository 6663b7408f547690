-- Whether a row stands at the path of some names.
use Rattle.std.proofs.Common.{◌≡◌, ◌≢◌, ℕ, ◌+◌, ◌-◌, ◌<◌, ◌≤◌, Bool, true, false, not, nat_lt, List, [], ◌∷◌, ◌++◌, length, take, get_or, length-append, refl, sym, ap, subst, ◌∙◌, arith, inl, inr}
use Rattle.std.specs.Prelude.{Contains, bytes_eq}
use Rattle.std.specs.Bool.{Decides}
use Rattle.std.specs.List.{HoldsAt}
use Rattle.std.specs.List.Sorted.{IsStrictlySortedBy}
use Rattle.std.proofs.Math.Seq.{take-length}
use Rattle.std.proofs.lemmas.Bool.{cases_lt}
use Rattle.std.proofs.lemmas.Bool.Decides.{Decides-ltb}
use Rattle.std.proofs.lemmas.List.{take_more, get_or_default}
use Rattle.std.proofs.lemmas.List.Elements.{Contains-get_or}
use Rattle.std.proofs.lemmas.Slice.Eq.{bytes_eq-Decides}
use Rattle.cv_base.specs.Path.{Path, same_name, key_of, same_path}
use Rattle.cv_base.proofs.Laws.{last_same, path_total, same_name_is, same_name_itself, same_path_is}
use Rattle.cv_rows.specs.Catalogue.{Contents, IsCatalogue, row_cmp}
use Rattle.cv_rows.specs.Places.{IsRoot, IsChild, StandsAt, root, below}
use Rattle.cv_rows.specs.ParentsInner.{IsParentOf}
use Rattle.cv_rows.specs.declared.row.Row.{Row}
use Rattle.cv_rows.specs.declared.nested.Nested.{Nested}
use Rattle.std.specs.Ordering.{is_eq}
use Rattle.std.specs.Cmp.{tied_itself}
use Rattle.cv_rows.proofs.Sorting.{same_row}
use Rattle.cv_rows.proofs.NestedLaws.{fits_there}
use Rattle.cv_rows.proofs.PlaceLaws.{stands_contained, one_place, root_index}

-- a list of some names is its front and its last
pub front_and_last : (names : Path) (last : List ℕ) → 1 ≤ length names → last ≡ get_or names (length names - 1) last → names ≡ take (length names - 1) names ++ last ∷ []
front_and_last names last some is =
    let i = length names - 1 in
    let next : i + 1 ≡ length names = omega arith in
    sym (take-length names) ∙ ap (λ (n : ℕ). take n names) (sym next) ∙ take_more names i last (omega arith) ∙ ap (λ (x : List ℕ). take i names ++ x ∷ []) (sym is)

pub same_names : (a b : List ℕ) → Decides (same_name a b) (a ≡ b)
same_names a b = (same_name_is a b, λ e. ap (same_name a) (sym e) ∙ same_name_itself a)

-- the root row stands at the catalogue's place alone
pub at_root : (at : Path) (rows : List Row) (top row : ℕ) (names own : Path) (is : Bool) → IsStrictlySortedBy row_cmp rows → top < length rows → HoldsAt (IsRoot at) rows top → row ≡ top → own ≡ at
    → Decides is (names ≡ own) → (d : Row) → Decides is (StandsAt at rows (get_or rows row d) names)
at_root at rows top row names own is sorted inside is_root same owns decides d =
    let here : IsRoot at (get_or rows row d) = subst (λ (j : ℕ). IsRoot at (get_or rows j d)) (sym same) (is_root d) in
    let stands : StandsAt at rows (get_or rows row d) at = root (Contains-get_or rows row d (omega arith)) here in (
      λ yes. subst (λ (p : Path). StandsAt at rows (get_or rows row d) p) (sym (decides.0 yes ∙ owns)) stands,
      λ s. decides.1 (one_place sorted s stands ∙ sym owns),
    )

-- another row stands below its parent, by its own name
record IsUnder (at : Path) (rows : List Row) (r : Row) (parent : ℕ) (q : Path) : Type 0 where
  inside : parent < length rows
  above : Path
  stands : (d : Row) → StandsAt at rows (get_or rows parent d) above
  is : q ≡ above ++ r.name ∷ []

record IsOther (at : Path) (rows : List Row) (top row parent : ℕ) : Type 0 where
  sorted : IsStrictlySortedBy row_cmp rows
  inside : top < length rows
  is_root : HoldsAt (IsRoot at) rows top
  here : row < length rows
  apart : row ≢ top
  parent_is : IsParentOf rows top row parent

same_default : (rows : List Row) (i : ℕ) (d e : Row) → i < length rows → IsStrictlySortedBy row_cmp rows → get_or rows i d ≡ get_or rows i e
same_default rows i d e lt sorted = same_row rows i d (get_or rows i e) sorted lt (Contains-get_or rows i e lt) (ap (λ (x : Row). x.key.0) (default rows i d e lt))
  where
    default : (xs : List Row) (k : ℕ) (a b : Row) → k < length xs → get_or xs k a ≡ get_or xs k b
    default xs k a b l = get_or_default xs k a b l

under : {at : Path} {rows : List Row} {r : Row} {q : Path} (top row parent : ℕ) → IsOther at rows top row parent → (d : Row) → r ≡ get_or rows row d → StandsAt at rows r q → IsUnder at rows r parent q
under {at} {rows} {r} top row parent o d same (root has is) =
    absurd (o.apart (root_index at rows row top d o.sorted o.here o.inside (subst (λ (x : Row). IsRoot at x) same is) (o.is_root d)))
under {at} {rows} {r} top row parent o d same (below {p = p} {q = q} has other s child) =
    let kid : IsChild (get_or rows row d) p = subst (λ (x : Row). IsChild x p) same child in
    elim (cases_lt parent (length rows)) [
      | inl lt ↦
          let p-is = λ (e : Row). (
          let own = o.parent_is.some o.apart lt e in
          let one : get_or rows row e ≡ get_or rows row d = same_default rows row e d o.here o.sorted in
          same_row rows parent e p o.sorted lt (stands_contained s) (sym own.parent ∙ ap (λ (x : Row). x.parent.0) one ∙ kid.parent)
          ) in
          record { inside = lt; above = q; stands = λ e. subst (λ (x : Row). StandsAt at rows x q) (sym (p-is e)) s; is = refl }
      | inr ge ↦ absurd (o.parent_is.none o.apart ge d p (stands_contained s) kid)
    ]

other : (at : Path) (rows : List Row) (top row parent : ℕ) → IsStrictlySortedBy row_cmp rows → top < length rows → HoldsAt (IsRoot at) rows top → row < length rows → row ≢ top → IsParentOf rows top row parent → IsOther at rows top row parent
other at rows top row parent sorted inside is_root here apart parent_is = record { sorted = sorted; inside = inside; is_root = is_root; here = here; apart = apart; parent_is = parent_is }

is_no : {P : Type 0} → (P → ⊥) → Decides false P
is_no h = (λ e. absurd cc, λ p. absurd (h p))

longer : (q : Path) (x : List ℕ) (names : Path) → names ≡ q ++ x ∷ [] → length names < 1 → ⊥
longer q x names h few = omega (arith, ap length h, length-append q (x ∷ []))

-- another row doesn't stand at the root of the repository
pub no_names : (at : Path) (rows : List Row) (top row : ℕ) (names : Path) → IsStrictlySortedBy row_cmp rows → top < length rows → HoldsAt (IsRoot at) rows top → row < length rows → row ≢ top
    → length names < 1 → (d : Row) → Decides false (StandsAt at rows (get_or rows row d) names)
no_names at rows top row names sorted inside is_root here apart few d = is_no (λ s. not_there s refl refl)
  where
    not_there : {r : Row} {q : Path} → StandsAt at rows r q → r ≡ get_or rows row d → q ≡ names → ⊥
    not_there (root has is) same place = apart (root_index at rows row top d sorted here inside (subst (λ (x : Row). IsRoot at x) same is) (is_root d))
    not_there {r = r} (below {q = q} has more s child) same place = longer q r.name names (sym place) few

-- nor at a path that ends in another name
pub other_name : (at : Path) (rows : List Row) (top row : ℕ) (names : Path) (last name text : List ℕ) (r : Row) → IsStrictlySortedBy row_cmp rows → top < length rows → HoldsAt (IsRoot at) rows top → row < length rows → row ≢ top
    → 1 ≤ length names → last ≡ get_or names (length names - 1) last → r ≡ get_or rows row r → name ≡ (get_or rows row r).name → text ≡ last → true ≡ not (bytes_eq name text) → (d : Row) → Decides false (StandsAt at rows (get_or rows row d) names)
other_name at rows top row names last name text r sorted inside is_root here apart some is r-is name-is text-is differs d = is_no (λ s. not_there s refl refl)
  where
    not_there : {s : Row} {q : Path} → StandsAt at rows s q → s ≡ get_or rows row d → q ≡ names → ⊥
    not_there (root has is) same place = apart (root_index at rows row top d sorted here inside (subst (λ (x : Row). IsRoot at x) same is) (is_root d))
    not_there {s = s} (below {q = q} has more st child) same place =
        let ends = last_same q (take (length names - 1) names) s.name last (place ∙ front_and_last names last some is) in
        let one : r ≡ s = r-is ∙ same_default rows row r d here sorted ∙ sym same in
        let names-are : name ≡ text = name-is ∙ ap (λ (x : Row). x.name) (sym r-is ∙ one) ∙ ends.1 ∙ sym text-is in
        let yes : bytes_eq name text ≡ true = (bytes_eq-Decides name text).1 names-are in
        let no : true ≡ not true = differs ∙ ap not yes in
        cc

-- nor anywhere without a parent
pub without_parent : (at : Path) (rows : List Row) (top row parent : ℕ) (names : Path) → IsStrictlySortedBy row_cmp rows → top < length rows → HoldsAt (IsRoot at) rows top → row < length rows → row ≢ top → IsParentOf rows top row parent
    → length rows ≤ parent → (d : Row) → Decides (nat_lt parent (length rows)) (StandsAt at rows (get_or rows row d) names)
without_parent at rows top row parent names sorted inside is_root here apart parent_is ge d = (
  λ yes. absurd (let lt : parent < length rows = (Decides-ltb parent (length rows)).0 yes in omega arith),
  λ s. absurd (let u = under top row parent (other at rows top row parent sorted inside is_root here apart parent_is) d refl s in let lt = u.inside in omega arith),
)

-- it stands below its parent by its name, just where the parent stands above
pub goes_up : (at : Path) (rows : List Row) (top row parent : ℕ) (names : Path) (last name text : List ℕ) (r : Row) (is : Bool) → IsStrictlySortedBy row_cmp rows → top < length rows → HoldsAt (IsRoot at) rows top → row < length rows → row ≢ top → IsParentOf rows top row parent
    → 1 ≤ length names → last ≡ get_or names (length names - 1) last → r ≡ get_or rows row r → name ≡ (get_or rows row r).name → text ≡ last → false ≡ not (bytes_eq name text) → parent < length rows
    → ((e : Row) → Decides is (StandsAt at rows (get_or rows parent e) (take (length names - 1) names))) → (d : Row) → Decides is (StandsAt at rows (get_or rows row d) names)
goes_up at rows top row parent names last name text r is sorted inside is_root here apart parent_is some last-is r-is name-is text-is same lt decides d =
    let front = take (length names - 1) names in
    let own = get_or rows row d in
    let names-are : names ≡ front ++ last ∷ [] = front_and_last names last some last-is in
    let one : r ≡ own = r-is ∙ same_default rows row r d here sorted in
    let equal : name ≡ text = (bytes_eq-Decides name text).0 (was (bytes_eq name text) same) in
    let named : own.name ≡ last = ap (λ (x : Row). x.name) (sym one ∙ r-is) ∙ sym name-is ∙ equal ∙ text-is in
    let o = other at rows top row parent sorted inside is_root here apart parent_is in (
      λ yes.
          let up = (decides d).0 yes in
          let not_root = λ (root_is : IsRoot at own). apart (root_index at rows row top d sorted here inside root_is (is_root d)) in
          let stands : StandsAt at rows own (front ++ own.name ∷ []) = below (Contains-get_or rows row d here) not_root up (parent_is.some apart lt d) in
          subst (λ (p : Path). StandsAt at rows own p) (ap (λ (x : List ℕ). front ++ x ∷ []) named ∙ sym names-are) stands,
      λ s.
          let u = under top row parent o d refl s in
          let ends = last_same front u.above last own.name (sym names-are ∙ u.is) in
          (decides d).1 (subst (λ (p : Path). StandsAt at rows (get_or rows parent d) p) (sym ends.0) (u.stands d)),
    )
  where
    was : (b : Bool) → false ≡ not b → b ≡ true
    was true h = refl
    was false h = absurd cc

-- ---- the row of a path

-- a catalogue has a root row
pub has_root : (c : Contents) (place : Path) (rows : List Row) → IsCatalogue c → place ≡ c.at → rows ≡ c.rows → ((r : Row) → Contains rows r → IsRoot place r → ⊥) → ⊥
has_root c place rows is places same none =
    let top = is.region.root in
    none top.0 (subst (λ (x : List Row). Contains x top.0) (sym same) top.1) (subst (λ (x : Path). IsRoot x top.0) (sym places) top.2)

-- without a row of the path's key none stands there
pub no_key : (c : Contents) (rows : List Row) (path : Path) (key : List ℕ) → IsCatalogue c → rows ≡ c.rows → key ≡ key_of path → ((r : Row) → Contains rows r → r.key.0 ≢ key) → (r : Row) → StandsAt c.at c.rows r path → ⊥
no_key c rows path key is same key-is none r s =
    none r (subst (λ (x : List Row). Contains x r) (sym same) (stands_contained s)) ((fits_there c.at c.rows r path is.ordered is.region.placed s).key ∙ sym key-is)

-- nor where the row of the key doesn't
pub not_there : (c : Contents) (place : Path) (rows keyed_rows : List Row) (path names : Path) (key : List ℕ) (row : ℕ) (is : Bool) → IsCatalogue c → place ≡ c.at → rows ≡ c.rows → keyed_rows ≡ c.rows → names ≡ path → key ≡ key_of path
    → row < length keyed_rows → HoldsAt (λ r. r.key.0 ≡ key) keyed_rows row → ((d : Row) → Decides is (StandsAt place (rows) (get_or rows row d) names)) → is ≡ false → (r : Row) → StandsAt c.at c.rows r path → ⊥
not_there c place rows keyed_rows path names key row is good places same keyed_same names-are key-is lt keyed decides isnt r s =
    let keyed_r : (get_or c.rows row r).key.0 ≡ key = subst (λ (x : List Row). (get_or x row r).key.0 ≡ key) keyed_same (keyed r) in
    let one : get_or c.rows row r ≡ r =
    same_row c.rows row r r good.ordered (subst (λ (x : List Row). row < length x) keyed_same lt) (stands_contained s) (keyed_r ∙ key-is ∙ sym (fits_there c.at c.rows r path good.ordered good.region.placed s).key) in
    let here : StandsAt c.at c.rows (get_or c.rows row r) path = subst (λ (x : Row). StandsAt c.at c.rows x path) (sym one) s in
    let moved : StandsAt place rows (get_or rows row r) names =
    subst (λ (x : Path). StandsAt x rows (get_or rows row r) names) (sym places) (subst (λ (x : List Row). StandsAt c.at x (get_or x row r) names) (sym same) (subst (λ (x : Path). StandsAt c.at c.rows (get_or c.rows row r) x) (sym names-are) here)) in
    let yes : is ≡ true = (decides r).1 moved in
    let e : false ≡ true = sym isnt ∙ yes in
    cc

-- ---- the nested entry of a path

pub listed_here : (nested : List Nested) (i : ℕ) (r : Nested) (path : Path) → i < length nested → r ≡ get_or nested i r → true ≡ same_path (get_or nested i r).path path → (d : Nested) → (get_or nested i d).path ≡ path
listed_here nested i r path lt is same d = ap (λ (x : Nested). x.path) (get_or_default nested i d r lt) ∙ same_path_is (get_or nested i r).path path (sym same)

pub not_listed : (nested : List Nested) (i : ℕ) (r : Nested) (path : Path) → i < length nested → r ≡ get_or nested i r → false ≡ same_path (get_or nested i r).path path → (d : Nested) → (get_or nested i d).path ≢ path
not_listed nested i r path lt is differs d same =
    let here : (get_or nested i r).path ≡ path = ap (λ (x : Nested). x.path) (get_or_default nested i r d lt) ∙ same in
    let yes : same_path (get_or nested i r).path path ≡ true = ap (λ (w : Path). same_path w path) here ∙ ap is_eq (tied_itself path_total path) in
    let e : false ≡ true = differs ∙ yes in
    cc

pub listed_more : (nested : List Nested) (i : ℕ) (path : Path) → ((k : ℕ) (d : Nested) → k < i → (get_or nested k d).path ≢ path) → ((d : Nested) → (get_or nested i d).path ≢ path) → (k : ℕ) (d : Nested) → k < i + 1 → (get_or nested k d).path ≢ path
listed_more nested i path before here k d lt =
    elim (cases_lt k i) [
      | inl less ↦ before k d less
      | inr ge ↦ let is : k ≡ i = omega arith in subst (λ (j : ℕ). (get_or nested j d).path ≢ path) (sym is) (here d)
    ]
