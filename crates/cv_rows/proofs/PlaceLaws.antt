-- Where rows stand: at one place each, and just where their parents lead to the root row.
use Rattle.std.proofs.Common.{◌≡◌, ◌≢◌, ℕ, zero, suc, ◌<◌, ◌≤◌, List, [], ◌∷◌, ◌++◌, length, get_or, refl, sym, ap, subst, ◌∙◌, arith, inl, inr}
use Rattle.std.specs.Prelude.{Contains}
use Rattle.std.specs.List.{HoldsAt}
use Rattle.std.specs.List.Sorted.{IsStrictlySortedBy}
use Rattle.std.proofs.lemmas.Bool.{cases_lt}
use Rattle.std.proofs.lemmas.List.Elements.{Contains-get_or}
use Rattle.cv_base.specs.Path.{Path, key_of}
use Rattle.cv_base.proofs.Laws.{same_or_other}
use Rattle.cv_rows.specs.Catalogue.{row_cmp}
use Rattle.cv_rows.specs.Places.{IsRoot, IsChild, StandsAt, root, below}
use Rattle.cv_rows.specs.ParentsInner.{step, times, AreParents, AreInside}
use Rattle.cv_rows.specs.declared.row.Row.{Row}
use Rattle.cv_rows.proofs.Sorting.{same_index, same_row}
use Rattle.cv_rows.proofs.Reach.{hit_by, last_stays}

-- a row that stands somewhere is one of the rows
pub stands_contained : {at : Path} {rows : List Row} {r : Row} {q : Path} → StandsAt at rows r q → Contains rows r
stands_contained (root has is) = has
stands_contained (below has apart s child) = has

-- rows of one key are one
pub same_by_key : (rows : List Row) (p r : Row) → IsStrictlySortedBy row_cmp rows → Contains rows p → Contains rows r → p.key.0 ≡ r.key.0 → p ≡ r
same_by_key rows p r sorted has had same =
    sym has.2 ∙ same_row rows has.0 p r sorted has.1 had (ap (λ (x : Row). x.key.0) has.2 ∙ same)

-- a row stands at one path
pub one_place : {at : Path} {rows : List Row} {r : Row} {a b : Path} → IsStrictlySortedBy row_cmp rows → StandsAt at rows r a → StandsAt at rows r b → a ≡ b
one_place sorted (root has is) (root had was) = refl
one_place sorted (root has is) (below had apart s child) = absurd (apart is)
one_place sorted (below has apart s child) (root had was) = absurd (apart was)
one_place {at} {rows} {r} sorted (below {p = p} {q = q} has apart s child) (below {p = o} {q = u} had other t kid) =
    let same : p ≡ o = same_by_key rows p o sorted (stands_contained s) (stands_contained t) (sym child.parent ∙ kid.parent) in
    let moved : StandsAt at rows o q = subst (λ (x : Row). StandsAt at rows x q) same s in
    ap (λ (w : Path). w ++ r.name ∷ []) (one_place sorted moved t)

-- only the root row has what the root row has
pub root_index : (at : Path) (rows : List Row) (i j : ℕ) (d : Row) → IsStrictlySortedBy row_cmp rows → i < length rows → j < length rows → IsRoot at (get_or rows i d) → IsRoot at (get_or rows j d) → i ≡ j
root_index at rows i j d sorted li lj is was = same_index rows i j d sorted li lj (is.key ∙ sym was.key)

-- a row whose parents lead to the root row stands somewhere
pub stands_above : (at : Path) (rows : List Row) (top : ℕ) (parents : List ℕ) → IsStrictlySortedBy row_cmp rows → top < length rows → HoldsAt (IsRoot at) rows top → AreParents rows top parents
    → (k i : ℕ) (d : Row) → i < length rows → times parents k i ≡ top → (q : Path) × StandsAt at rows (get_or rows i d) q
unfolding times
stands_above at rows top parents sorted inside is_root are zero i d lt h =
    (at, root (Contains-get_or rows i d lt) (subst (λ (j : ℕ). IsRoot at (get_or rows j d)) (sym h) (is_root d)))
stands_above at rows top parents sorted inside is_root are (suc k) i d lt h =
    elim (same_or_other i top) [
      | inl same ↦ (at, root (Contains-get_or rows i d lt) (subst (λ (j : ℕ). IsRoot at (get_or rows j d)) (sym same) (is_root d)))
      | inr apart ↦
          let j = step parents i in
          let parent = are.each i lt in
          elim (cases_lt j (length rows)) [
            | inl lj ↦
                let above = stands_above at rows top parents sorted inside is_root are k j d lj h in
                let child = parent.some apart lj d in
                (above.0 ++ (get_or rows i d).name ∷ [], below (Contains-get_or rows i d lt) (λ is. apart (root_index at rows i top d sorted lt inside is (is_root d))) above.1 child)
            | inr ge ↦
                let j-is : j ≡ length rows = omega (arith, parent.bound) in
                let stays : times parents k j ≡ length rows = ap (λ (x : ℕ). times parents k x) j-is ∙ last_stays parents (length rows) k are.last in
                absurd (omega (arith, stays, h))
          ]
    ]

-- the parents of a row that stands somewhere lead to the root row
pub climbs : {at : Path} {rows : List Row} {r : Row} {q : Path} (top : ℕ) (parents : List ℕ) → IsStrictlySortedBy row_cmp rows → top < length rows → HoldsAt (IsRoot at) rows top → AreParents rows top parents
    → StandsAt at rows r q → (i : ℕ) (d : Row) → i < length rows → get_or rows i d ≡ r → (k : ℕ) × (times parents k i ≡ top)
unfolding times
climbs {at} {rows} {r} top parents sorted inside is_root are (root has is) i d lt same =
    (0, root_index at rows i top d sorted lt inside (subst (λ (x : Row). IsRoot at x) (sym same) is) (is_root d))
climbs {at} {rows} {r} top parents sorted inside is_root are (below {p = p} has apart s child) i d lt same =
    let parent = are.each i lt in
    let j = step parents i in
    let not_top : i ≢ top = λ e. apart (subst (λ (x : Row). IsRoot at x) (ap (λ (k : ℕ). get_or rows k d) (sym e) ∙ same) (is_root d)) in
    let kid : IsChild (get_or rows i d) p = subst (λ (x : Row). IsChild x p) (sym same) child in
    elim (cases_lt j (length rows)) [
      | inl lj ↦
          let other = parent.some not_top lj d in
          let above = climbs top parents sorted inside is_root are s j d lj (same_row rows j d p sorted lj (stands_contained s) (sym other.parent ∙ kid.parent)) in
          (suc above.0, above.1)
      | inr ge ↦ absurd (parent.none not_top ge d p (stands_contained s) kid)
    ]

-- the list of parents leads inside itself
pub parents_inside : (rows : List Row) (top : ℕ) (parents : List ℕ) → top < length rows → AreParents rows top parents → AreInside parents
parents_inside rows top parents inside are = λ i lt.
    elim (cases_lt i (length rows)) [
      | inl li ↦ let parent = are.each i li in omega (arith, parent.bound, are.size)
      | inr ge ↦ let last : i ≡ length rows = omega (arith, are.size) in subst (λ (j : ℕ). step parents j < length parents) (sym last) (omega (arith, are.last, are.size))
    ]

-- a row stands somewhere just where so many steps lead to the root row
pub orphan : (at : Path) (rows : List Row) (top : ℕ) (parents : List ℕ) (n i : ℕ) (d : Row) → IsStrictlySortedBy row_cmp rows → top < length rows → HoldsAt (IsRoot at) rows top → AreParents rows top parents → length parents ≤ n
    → i < length rows → times parents n i ≢ top → (q : Path) → StandsAt at rows (get_or rows i d) q → ⊥
orphan at rows top parents n i d sorted inside is_root are enough lt away q s =
    let climb = climbs top parents sorted inside is_root are s i d lt refl in
    let parent = are.each top inside in
    away (hit_by parents top climb.0 i n (parents_inside rows top parents inside are) (parent.root_is refl) (omega (arith, are.size)) climb.1 enough)

-- where the row with the key of the place isn't the root row, none is
pub no_other_root : (at : Path) (rows : List Row) (i : ℕ) (r : Row) → IsStrictlySortedBy row_cmp rows → i < length rows → r ≡ get_or rows i r → HoldsAt (λ x. x.key.0 ≡ key_of at) rows i → (IsRoot at r → ⊥) → (p : Row) → Contains rows p → IsRoot at p → ⊥
no_other_root at rows i r sorted lt r-is key other p has is =
    let same : get_or rows i r ≡ p = same_row rows i r p sorted lt has (key r ∙ sym is.key) in
    other (subst (λ (x : Row). IsRoot at x) (sym (r-is ∙ same)) is)
