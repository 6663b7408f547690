-- Parents by index: what they say of the places of rows.
use Rattle.std.proofs.Common.{◌≡◌, ◌≢◌, ℕ, ◌+◌, ◌<◌, inl, inr, List, [], ◌∷◌, ◌++◌, length, get_or, sym, ap, subst, ◌∙◌, arith, length-append}
use Rattle.std.specs.Prelude.{Contains}
use Rattle.std.specs.List.{HoldsAt}
use Rattle.std.specs.List.Sorted.{IsStrictlySortedBy}
use Rattle.std.proofs.Math.Seq.{get_or-append_seam}
use Rattle.std.proofs.lemmas.Bool.{cases_lt}
use Rattle.std.proofs.lemmas.List.{get_or_default, get_or_append_left}
use Rattle.cv_rows.specs.Catalogue.{row_cmp}
use Rattle.cv_rows.specs.Places.{IsChild}
use Rattle.cv_rows.specs.ParentsInner.{IsParentOf, AreParents}
use Rattle.cv_rows.specs.declared.row.Row.{Row}
use Rattle.cv_rows.proofs.Sorting.{same_row}

-- the row has no parent
pub no_parent : (rows : List Row) (root i : ℕ) (r : Row) → i ≢ root → i < length rows → r ≡ get_or rows i r → ((p : Row) → Contains rows p → IsChild r p → ⊥) → IsParentOf rows root i (length rows)
no_parent rows root i r apart li r-is none = record {
  bound = omega arith;
  root_is = λ same. absurd (apart same);
  some = λ ne lt. absurd (omega arith);
  none = λ ne le d p has child. none p has (subst (λ (x : Row). IsChild x p) (sym (r-is ∙ get_or_default rows i r d li)) child);
}

-- what has the parent key as its key, and isn't the parent, leaves the row without one
pub other_parent : (rows : List Row) (j : ℕ) (r q : Row) → IsStrictlySortedBy row_cmp rows → j < length rows → q ≡ get_or rows j q → HoldsAt (λ x. x.key.0 ≡ r.parent.0) rows j → (IsChild r q → ⊥) → (p : Row) → Contains rows p → IsChild r p → ⊥
other_parent rows j r q sorted lj q-is key other p has child =
    let same : get_or rows j q ≡ p = same_row rows j q p sorted lj has (key q ∙ child.parent) in
    other (subst (λ (x : Row). IsChild r x) (sym (q-is ∙ same)) child)

-- the parents of so many rows, and of one more
pub one_more_parent : (rows : List Row) (root row p : ℕ) (parents more : List ℕ) → more ≡ parents ++ p ∷ [] → length parents ≡ row → ((i : ℕ) → i < row → IsParentOf rows root i (get_or parents i 0)) → IsParentOf rows root row p
    → (i : ℕ) → i < row + 1 → IsParentOf rows root i (get_or more i 0)
one_more_parent rows root row p parents more is size each last i lt =
    let seam : get_or more row 0 ≡ p = ap (λ (l : List ℕ). get_or l row 0) is ∙ ap (λ (k : ℕ). get_or (parents ++ p ∷ []) k 0) (sym size) ∙ get_or-append_seam parents p [] 0 in
    elim (cases_lt i row) [
      | inl before ↦ subst (λ (j : ℕ). IsParentOf rows root i j) (sym (ap (λ (l : List ℕ). get_or l i 0) is ∙ get_or_append_left parents (p ∷ []) 0 i (omega (arith, before, size)))) (each i before)
      | inr behind ↦
          let same : row ≡ i = omega (arith, lt, behind) in
          subst (λ (j : ℕ). IsParentOf rows root j (get_or more j 0)) same (subst (λ (j : ℕ). IsParentOf rows root row j) (sym seam) last)
    ]

-- the parents of all rows, and the count of rows behind them
pub all_parents : (rows : List Row) (root row : ℕ) (parents all : List ℕ) → all ≡ parents ++ length rows ∷ [] → length parents ≡ row → row ≡ length rows → ((i : ℕ) → i < row → IsParentOf rows root i (get_or parents i 0)) → AreParents rows root all
all_parents rows root row parents all is size whole each = record {
  size = ap length is ∙ length-append parents (length rows ∷ []) ∙ omega (arith, size, whole);
  each = λ i lt. subst (λ (j : ℕ). IsParentOf rows root i j) (sym (ap (λ (l : List ℕ). get_or l i 0) is ∙ get_or_append_left parents (length rows ∷ []) 0 i (omega (arith, lt, size, whole)))) (each i (omega (arith, lt, whole)));
  last = ap (λ (l : List ℕ). get_or l (length rows) 0) is ∙ ap (λ (k : ℕ). get_or (parents ++ length rows ∷ []) k 0) (sym (size ∙ whole)) ∙ get_or-append_seam parents (length rows) [] 0;
}
