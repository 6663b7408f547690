-- The path of a row, found step by step.
use Rattle.std.proofs.Common.{◌≡◌, ◌≢◌, ℕ, ◌+◌, ◌-◌, ◌<◌, ◌≤◌, true, List, [], ◌∷◌, ◌++◌, length, get_or, Option, Some, None, Result, Ok, Err, refl, sym, ap, subst, ◌∙◌, arith, inl, inr, length-append}
use Rattle.std.specs.Prelude.{IfOk}
use Rattle.std.specs.List.{All, list_all}
use Rattle.std.specs.List.Sorted.{IsStrictlySortedBy}
use Rattle.std.proofs.lemmas.Bool.{cases_lt}
use Rattle.std.proofs.lemmas.List.{get_or_default}
use Rattle.cv_base.specs.Path.{Path, IsPath, text_of, is_path_name}
use Rattle.cv_base.specs.PathText.{joined}
use Rattle.cv_base.specs.Unless.{IsUnless}
use Rattle.cv_base.specs.declared.path_fault.PathFault.{PathFault}
use Rattle.cv_base.specs.declared.path_fault.PathFault.TheVariants.{NoMemory}
use Rattle.cv_base.proofs.Laws.{first_true, second_true, joined_path}
use Rattle.cv_rows.specs.Catalogue.{row_cmp, FitsAt}
use Rattle.cv_rows.specs.Faults.{IsFirst, IsOrphan, IsMisplaced}
use Rattle.cv_rows.specs.Places.{IsRoot, IsChild, StandsAt, root, below}
use Rattle.cv_rows.specs.Parents.{IsBelow}
use Rattle.cv_rows.specs.ParentsInner.{step, times, AreAbove, IsPlacing, IsPathOf, HasPath}
use Rattle.cv_rows.specs.declared.row.Row.{Row}
use Rattle.cv_rows.proofs.Sorting.{same_row}
use Rattle.cv_rows.proofs.PlaceLaws.{stands_contained, one_place, root_index, stands_above, orphan}

-- ---- names and limits

all_front : (p : Path) (name : List ℕ) → list_all is_path_name (p ++ name ∷ []) ≡ true → list_all is_path_name p ≡ true
all_front [] name h = refl
all_front (a ∷ p) name h = rw (first_true (is_path_name a) (list_all is_path_name (p ++ name ∷ [])) h) (all_front p name (second_true (is_path_name a) (list_all is_path_name (p ++ name ∷ [])) h))

text_front : (p : Path) (name : List ℕ) → length (text_of p) ≤ length (text_of (p ++ name ∷ []))
text_front [] name = omega arith
text_front (a ∷ p) name = omega (arith, length-append (47 ∷ a) (text_of p), length-append (47 ∷ a) (text_of (p ++ name ∷ [])), text_front p name)

-- a path without its last name is a path
pub front_path : (p : Path) (name : List ℕ) → IsPath (p ++ name ∷ []) → IsPath p
front_path p name is = record {
  names = all_front p name is.names;
  depth = omega (arith, is.depth, length-append p (name ∷ []));
  size = omega (arith, is.size, text_front p name);
}

other_fault : (fault : PathFault) (answer : Result Path PathFault) (path : Path) → IsUnless NoMemory (Err fault) answer → fault ≢ NoMemory → answer ≡ Ok path → ⊥
other_fault fault answer path (inl lack) apart ok = apart lack
other_fault fault answer path (inr is) apart ok = let wrong : Err fault ≡ Ok path = is ∙ ok in cc

pub no_longer : (above : Path) (name : List ℕ) (fault : PathFault) → IsUnless NoMemory (Err fault) (joined above name) → fault ≢ NoMemory → IsBelow above name None
no_longer above name fault is other = λ path. other_fault fault (joined above name) (above ++ name ∷ []) is other (joined_path above name path)

-- ---- one step

-- the row at i stands at q below its parent
pub record IsUnder (at : Path) (rows : List Row) (parents : List ℕ) (i : ℕ) (q : Path) : Type 0 where
  pub inside : step parents i < length rows
  pub above : Path
  pub stands : (d : Row) → StandsAt at rows (get_or rows (step parents i) d) above
  pub is : (d : Row) → q ≡ above ++ (get_or rows i d).name ∷ []

under : {at : Path} {rows : List Row} {r : Row} {q : Path} (top : ℕ) (parents : List ℕ) → IsPlacing at rows top parents → StandsAt at rows r q → (i : ℕ) (d : Row) → i < length rows → i ≢ top → r ≡ get_or rows i d → IsUnder at rows parents i q
under {at} {rows} {r} top parents placing (root has is) i d lt apart same =
    absurd (apart (root_index at rows i top d placing.ordered lt placing.inside (subst (λ (x : Row). IsRoot at x) same is) (placing.is_root d)))
under {at} {rows} {r} top parents placing (below {p = p} {q = q} has other s child) i d lt apart same =
    let parent = placing.are.each i lt in
    let j = step parents i in
    let kid : IsChild (get_or rows i d) p = subst (λ (x : Row). IsChild x p) same child in
    elim (cases_lt j (length rows)) [
      | inl lj ↦
          let own = parent.some apart lj d in
          let p-is : get_or rows j d ≡ p = same_row rows j d p placing.ordered lj (stands_contained s) (sym own.parent ∙ kid.parent) in
          record {
            inside = lj;
            above = q;
            stands = λ e. subst (λ (x : Row). StandsAt at rows x q) (sym p-is ∙ get_or_default rows j d e lj) s;
            is = λ e. ap (λ (x : Row). q ++ x.name ∷ []) (same ∙ get_or_default rows i d e lt);
          }
      | inr ge ↦ absurd (parent.none apart ge d p (stands_contained s) kid)
    ]

pub stands_under : (at : Path) (rows : List Row) (top : ℕ) (parents : List ℕ) → IsPlacing at rows top parents → (i : ℕ) (d : Row) (q : Path) → i < length rows → i ≢ top → StandsAt at rows (get_or rows i d) q → IsUnder at rows parents i q
stands_under at rows top parents placing i d q lt apart s = under top parents placing s i d lt apart refl

-- a row stands nowhere above the place
pub stands_long : {at : Path} {rows : List Row} {r : Row} {q : Path} → StandsAt at rows r q → length at ≤ length q
stands_long (root has is) = omega arith
stands_long {r = r} (below {q = q} has other s child) = omega (arith, stands_long s, length-append q (r.name ∷ []))

-- the root row stands at the place
pub root_stands : (at : Path) (rows : List Row) (top : ℕ) (parents : List ℕ) (i left : ℕ) → IsPath at → IsPlacing at rows top parents → i ≡ top → (path : Path) → path ≡ at → IsPathOf at rows i left (Some path)
root_stands at rows top parents i left place placing same path is = (
  subst (λ (p : Path). IsPath p) (sym is) place,
  λ d.
      let lt : i < length rows = omega (arith, placing.inside) in
      let top_is : IsRoot at (get_or rows i d) = subst (λ (j : ℕ). IsRoot at (get_or rows j d)) (sym same) (placing.is_root d) in
      subst (λ (p : Path). StandsAt at rows (get_or rows i d) p) (sym is) (root (i, lt, get_or_default rows i (get_or rows i d) d lt) top_is),
)

-- without a name left, a row below the root row passes the limit
pub none_left : (at : Path) (rows : List Row) (top : ℕ) (parents : List ℕ) (i left : ℕ) → IsPlacing at rows top parents → i < length rows → i ≢ top → left ≡ 0 → IsPathOf at rows i left None
none_left at rows top parents i left placing lt apart none d q s is =
    let u = stands_under at rows top parents placing i d q lt apart s in
    omega (arith, stands_long (u.stands d), ap length (u.is d), length-append u.above ((get_or rows i d).name ∷ []))

some_row : (rows : List Row) (i : ℕ) → i < length rows → Row
some_row [] i lt = absurd (omega arith)
some_row (r ∷ rows) i lt = r

-- the parent of a row that stands somewhere is one of the rows
pub parent_inside : (at : Path) (rows : List Row) (top : ℕ) (parents : List ℕ) → IsPlacing at rows top parents → All (λ r. (q : Path) × StandsAt at rows r q) rows → (i : ℕ) → i < length rows → i ≢ top → step parents i < length rows
parent_inside at rows top parents placing stand i lt apart =
    let d = some_row rows i lt in
    let s = stand i d lt in (stands_under at rows top parents placing i d s.0 lt apart s.1).inside

-- where the parent's path passes a limit, so does the row's
pub above_none : (at : Path) (rows : List Row) (top : ℕ) (parents : List ℕ) (i left : ℕ) → IsPlacing at rows top parents → i < length rows → i ≢ top → 0 < left → IsPathOf at rows (step parents i) (left - 1) None → IsPathOf at rows i left None
above_none at rows top parents i left placing lt apart some none d q s is =
    let u = stands_under at rows top parents placing i d q lt apart s in
    let name = (get_or rows i d).name in
    let above_is : IsPath u.above = front_path u.above name (subst (λ (p : Path). IsPath p) (u.is d) is) in
    omega (arith, none d u.above (u.stands d) above_is, ap length (u.is d), length-append u.above (name ∷ []))

-- the row's path is its parent's with its name
pub above_some : (at : Path) (rows : List Row) (top : ℕ) (parents : List ℕ) (i left : ℕ) (r : Row) → IsPlacing at rows top parents → All (λ r. (q : Path) × StandsAt at rows r q) rows → i < length rows → i ≢ top → r ≡ get_or rows i r
    → (above : Path) → IsPathOf at rows (step parents i) (left - 1) (Some above) → (found : Option Path) → IsBelow above r.name found → IsPathOf at rows i left found
above_some at rows top parents i left r placing stand lt apart r-is above has None none = λ d q s is.
    let u = stands_under at rows top parents placing i d q lt apart s in
    let same : u.above ≡ above = one_place placing.ordered (u.stands d) (has.1 d) in
    let name_is : (get_or rows i d).name ≡ r.name = ap (λ (x : Row). x.name) (sym (r-is ∙ get_or_default rows i r d lt)) in
    absurd (none (subst (λ (p : Path). IsPath p) (u.is d ∙ ap (λ (p : Path). p ++ (get_or rows i d).name ∷ []) same ∙ ap (λ (n : List ℕ). above ++ n ∷ []) name_is) is))
above_some at rows top parents i left r placing stand lt apart r-is above has (Some path) is = (
  is.1,
  λ d.
      let s = stand i d lt in
      let u = stands_under at rows top parents placing i d s.0 lt apart s.1 in
      let same : u.above ≡ above = one_place placing.ordered (u.stands d) (has.1 d) in
      let name_is : (get_or rows i d).name ≡ r.name = ap (λ (x : Row). x.name) (sym (r-is ∙ get_or_default rows i r d lt)) in
      let whole : s.0 ≡ path = u.is d ∙ ap (λ (p : Path). p ++ (get_or rows i d).name ∷ []) same ∙ ap (λ (n : List ℕ). above ++ n ∷ []) name_is ∙ sym is.0 in
      subst (λ (p : Path). StandsAt at rows (get_or rows i d) p) whole s.1,
)

pub if_below : {E : Type 0} (at : Path) (rows : List Row) (top : ℕ) (parents : List ℕ) (i left : ℕ) (r : Row) → IsPlacing at rows top parents → All (λ r. (q : Path) × StandsAt at rows r q) rows → i < length rows → i ≢ top → r ≡ get_or rows i r
    → (above : Path) → IsPathOf at rows (step parents i) (left - 1) (Some above) → (result : Result (Option Path) E) → IfOk result (IsBelow above r.name) → IfOk result (IsPathOf at rows i left)
if_below at rows top parents i left r placing stand lt apart r-is above has (Ok found) is = above_some at rows top parents i left r placing stand lt apart r-is above has found is
if_below at rows top parents i left r placing stand lt apart r-is above has (Err e) is = tt

-- as many names as a path may have are left
pub has_path : (at : Path) (rows : List Row) (i left : ℕ) (found : Option Path) → 64 ≤ length at + left → IsPathOf at rows i left found → HasPath at rows i found
has_path at rows i left None enough none = λ d q s is. omega (arith, none d q s is, is.depth)
has_path at rows i left (Some path) enough has = has

pub if_path : {E : Type 0} (at : Path) (rows : List Row) (i left : ℕ) (result : Result (Option Path) E) → 64 ≤ length at + left → IfOk result (IsPathOf at rows i left) → IfOk result (HasPath at rows i)
if_path at rows i left (Ok found) enough is = has_path at rows i left found enough is
if_path at rows i left (Err e) enough is = tt

-- ---- orphans

-- the rows before lead to the root row, and this one doesn't
pub first_orphan_is : (at : Path) (rows : List Row) (top : ℕ) (parents far : List ℕ) (i x : ℕ) → length rows ≤ 50000 → IsPlacing at rows top parents → AreAbove 65536 parents far → ((j : ℕ) → j < i → get_or far j 0 ≡ top) → i < length rows → x ≡ get_or far i x → x ≢ top
    → IsFirst (IsOrphan at rows) rows i
first_orphan_is at rows top parents far i x count placing above before lt x-is away =
    let size = placing.are.size in
    let here : i < length parents = omega (arith, size) in
    let not_root : times parents 65536 i ≢ top = λ e. away (x-is ∙ get_or_default far i x 0 (omega (arith, above.size)) ∙ above.each i here ∙ e) in
    record {
      within = lt;
      here = λ d q s. orphan at rows top parents 65536 i d placing.ordered placing.inside placing.is_root placing.are (omega (arith, size)) lt not_root q s;
      before = λ j d lo hi none.
          let lj : j < length rows = omega arith in
          let s = stands_above at rows top parents placing.ordered placing.inside placing.is_root placing.are 65536 j d lj (sym (above.each j (omega (arith, size))) ∙ before j hi) in
          none s.0 s.1;
    }

pub all_stand_is : (at : Path) (rows : List Row) (top : ℕ) (parents far : List ℕ) (n : ℕ) → IsPlacing at rows top parents → AreAbove 65536 parents far → ((j : ℕ) → j < n → get_or far j 0 ≡ top) → length rows ≤ n → All (λ r. (q : Path) × StandsAt at rows r q) rows
all_stand_is at rows top parents far n placing above before all = λ j d lj.
    stands_above at rows top parents placing.ordered placing.inside placing.is_root placing.are 65536 j d lj (sym (above.each j (omega (arith, placing.are.size))) ∙ before j (omega arith))

-- ---- rows that fit

-- the rows before fit, and this one doesn't
pub first_misplaced_is : (at : Path) (rows : List Row) (i : ℕ) → IsStrictlySortedBy row_cmp rows → ((k : ℕ) (d : Row) → k < i → (q : Path) × StandsAt at rows (get_or rows k d) q × FitsAt at (get_or rows k d) q) → i < length rows
    → ((d : Row) → IsMisplaced at rows (get_or rows i d)) → IsFirst (IsMisplaced at rows) rows i
first_misplaced_is at rows i sorted fit lt here = record {
  within = lt;
  here = here;
  before = λ k d lo hi bad.
      let f = fit k d hi in
      bad.2 (subst (λ (q : Path). FitsAt at (get_or rows k d) q) (one_place sorted f.1 bad.1) f.2);
}

-- what holds below an index, and at it
pub one_more_row : (P : Row → Type 0) (rows : List Row) (i : ℕ) → ((k : ℕ) (d : Row) → k < i → P (get_or rows k d)) → ((d : Row) → P (get_or rows i d)) → (k : ℕ) (d : Row) → k < i + 1 → P (get_or rows k d)
one_more_row P rows i before here k d lt =
    elim (cases_lt k i) [
      | inl less ↦ before k d less
      | inr ge ↦ let same : i ≡ k = omega arith in subst (λ (j : ℕ). P (get_or rows j d)) same (here d)
    ]
