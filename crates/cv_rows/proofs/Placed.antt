-- Rows and the paths that they stand at, one path for each row.
use Rattle.std.proofs.Common.{◌≡◌, ℕ, zero, suc, ◌<◌, List, [], ◌∷◌, length, get_or, refl, sym, ap, subst, arith}
use Rattle.cv_base.specs.Path.{Path}
use Rattle.cv_rows.specs.Places.{StandsAt, StandEach}
use Rattle.cv_rows.specs.declared.row.Row.{Row}

-- there are as many paths as rows
pub each_long : (at : Path) (all rows : List Row) (qs : List Path) → StandEach at all rows qs → length qs ≡ length rows
each_long at all [] [] each = refl
each_long at all [] (q ∷ qs) each = absurd each
each_long at all (r ∷ rs) [] each = absurd each
each_long at all (r ∷ rs) (q ∷ qs) each = ap suc (each_long at all rs qs each.1)

-- each row stands at the path in its place
pub each_stands : (at : Path) (all rows : List Row) (qs : List Path) (i : ℕ) (d : Row) (e : Path) → StandEach at all rows qs → i < length rows → StandsAt at all (get_or rows i d) (get_or qs i e)
each_stands at all [] qs i d e each lt = absurd (omega arith)
each_stands at all (r ∷ rs) [] i d e each lt = absurd each
each_stands at all (r ∷ rs) (q ∷ qs) zero d e each lt = each.0
each_stands at all (r ∷ rs) (q ∷ qs) (suc i) d e each lt = each_stands at all rs qs i d e each.1 (omega arith)

-- so does this one
pub row_stands : (at : Path) (all rows : List Row) (qs : List Path) (i : ℕ) (r : Row) (q : Path) → StandEach at all rows qs → i < length rows → r ≡ get_or rows i r → q ≡ get_or qs i q → StandsAt at all r q
row_stands at all rows qs i r q each lt row path = subst (λ (x : Row). StandsAt at all x q) (sym row) (subst (StandsAt at all (get_or rows i r)) (sym path) (each_stands at all rows qs i r q each lt))
