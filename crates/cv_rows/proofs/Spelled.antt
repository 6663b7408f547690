-- The text of a row's path, written name by name.
use Rattle.std.proofs.Common.{◌≡◌, ◌≢◌, ℕ, ◌+◌, ◌<◌, Bool, true, false, List, [], ◌∷◌, ◌++◌, length, get_or, Option, None, Some, refl, sym, subst, ◌∙◌, arith, length-set, set, inl, inr}
use Rattle.std.proofs.lemmas.Bool.{cases_eq}
use Rattle.std.proofs.lemmas.List.{get_or-set_same, get_or-set_other}
use Rattle.std.specs.Prelude.{is_some}
use Rattle.std.specs.List.{All}
use Rattle.cv_base.specs.Path.{Path}
use Rattle.cv_rows.specs.FaultsInner.{IsPlaced}
use Rattle.cv_rows.specs.Places.{StandsAt}
use Rattle.cv_rows.specs.ParentsInner.{step, IsPlacing, IsPathOf}
use Rattle.cv_rows.specs.DigestsInner.{IsDigestBelow, IsKept, AreKept, IsFound}
use Rattle.cv_rows.specs.declared.path_digest.PathDigest.{PathDigest}
use Rattle.cv_rows.specs.declared.row.Row.{Row}
use Rattle.cv_rows.proofs.Walks.{above_some, has_path}

-- ---- what is kept of each row

-- with what is kept of one row more
pub kept_more : (at : Path) (rows : List Row) (kept : List (Option PathDigest)) (i : ℕ) (more : Option PathDigest) → AreKept at rows kept → i < length rows → IsKept at rows i more → AreKept at rows (set kept i more)
kept_more at rows kept i more are lt is = record {
  size = length-set kept i more ∙ are.size;
  each = λ j lj.
      elim (cases_eq j i) [
        | inl same ↦ subst (λ (k : ℕ). IsKept at rows k (get_or (set kept i more) k None)) (sym same) (subst (IsKept at rows i) (sym (get_or-set_same kept i more None (omega (arith, are.size)))) is)
        | inr differs ↦ subst (IsKept at rows j) (sym (get_or-set_other kept i j more None differs)) (are.each j lj)
      ];
}

-- the path of a row of which something is kept
pub kept_path : (at : Path) (rows : List Row) (kept : List (Option PathDigest)) (i : ℕ) (s : PathDigest) → AreKept at rows kept → i < length rows → get_or kept i None ≡ Some s → IsKept at rows i (Some s)
kept_path at rows kept i s are lt is = subst (IsKept at rows i) is (are.each i lt)

pub not_found : (at : Path) (rows : List Row) (i left : ℕ) (kept : List (Option PathDigest)) (is : Bool) → IsFound at rows i left kept is → is ≡ false → IsPathOf at rows i left None
not_found at rows i left kept is h e = subst (IsFound at rows i left kept) e h

module _ (at : Path) (rows : List Row) (top : ℕ) (parents : List ℕ) (i left : ℕ) (r : Row) (placing : IsPlacing at rows top parents) (stand : All (λ r. (q : Path) × StandsAt at rows r q) rows)
    (lt : i < length rows) (apart : i ≢ top) (r-is : r ≡ get_or rows i r) (above : PathDigest) (h : IsKept at rows (step parents i) (Some above)) where
  -- what is kept of the row's path is that of its parent's with its name
  pub kept_below : (more : Option PathDigest) → IsDigestBelow h.0 r.name more → IsKept at rows i more
  kept_below None is = tt
  kept_below (Some more) is = (h.0 ++ r.name ∷ [], is.1, above_some at rows top parents i 0 r placing stand lt apart r-is h.0 h.2 (Some (h.0 ++ r.name ∷ [])) (refl, is.0))

  pub found_below : (kept : List (Option PathDigest)) (more : Option PathDigest) → length kept ≡ length rows → IsDigestBelow h.0 r.name more → IsFound at rows i left (set kept i more) (is_some more)
  found_below kept None size is = above_some at rows top parents i left r placing stand lt apart r-is h.0 h.2 None is
  found_below kept (Some more) size is = (more, get_or-set_same kept i (Some more) None (omega (arith, size)))

-- ---- rows that fit

-- a row without a path stands where it doesn't fit
pub not_placed : (at : Path) (rows : List Row) (i left : ℕ) → length at + left ≡ 64 → All (λ r. (q : Path) × StandsAt at rows r q) rows → i < length rows → IsPathOf at rows i left None → IsPlaced at rows i false
not_placed at rows i left limit stand lt lacks =
    let none = has_path at rows i left None (omega (arith, limit)) lacks in
    λ d. let s = stand i d lt in (s.0, s.1, λ fit. none d s.0 s.1 fit.path)

pub is_misplaced : (at : Path) (rows : List Row) (i : ℕ) (is : Bool) → IsPlaced at rows i is → is ≡ false → IsPlaced at rows i false
is_misplaced at rows i is h e = subst (IsPlaced at rows i) e h

pub is_in_place : (at : Path) (rows : List Row) (i : ℕ) (is : Bool) → IsPlaced at rows i is → is ≡ true → IsPlaced at rows i true
is_in_place at rows i is h e = subst (IsPlaced at rows i) e h
