-- What is kept of the paths at which rows stand, while the rows are judged.
use Rattle.std.specs.Prelude.{◌≡◌, ◌<◌, ℕ, Bool, true, false, List, [], ◌∷◌, ◌++◌, length, Option, Some, None, slice_index_or}
use Rattle.md5.specs.Md5.{Holds}
use Rattle.cv_base.specs.Path.{Path, IsPath, text_of}
use Rattle.cv_rows.specs.ParentsInner.{IsPathOf}
use Rattle.cv_rows.specs.declared.row.Row.{Row}
use Rattle.cv_rows.specs.declared.path_digest.PathDigest.{PathDigest}

-- the digest of a path's text is begun, and the text's length and the count of names are kept
pub record IsDigestOf (path : Path) (s : PathDigest) : Type 0 where
  pub text : Holds s.hasher (text_of path)
  pub size : s.size ≡ length (text_of path)
  pub count : s.names ≡ length path

-- what is kept of a path with one more name, and nothing where that passes a limit
abbrev pub IsDigestBelow : Path → List ℕ → Option PathDigest → Type 0
IsDigestBelow path name None = IsPath (path ++ name ∷ []) → ⊥
IsDigestBelow path name (Some s) = IsPath (path ++ name ∷ []) × IsDigestOf (path ++ name ∷ []) s

-- what is kept of the row at an index, if anything is: its path's
abbrev pub IsKept : Path → List Row → ℕ → Option PathDigest → Type 0
IsKept at rows i None = Unit {0}
IsKept at rows i (Some s) = (path : Path) × IsDigestOf path s × IsPathOf at rows i 0 (Some path)

-- there is a place for each row, with its path's or with nothing
pub record AreKept (at : Path) (rows : List Row) (kept : List (Option PathDigest)) : Type 0 where
  pub size : length kept ≡ length rows
  pub each : (i : ℕ) → i < length rows → IsKept at rows i (slice_index_or kept i None)

-- what is told of the row at an index: its path's is kept, or it has none with so many names behind those of the place
abbrev pub IsFound : Path → List Row → ℕ → ℕ → List (Option PathDigest) → Bool → Type 0
IsFound at rows i left kept true = (s : PathDigest) × (slice_index_or kept i None ≡ Some s)
IsFound at rows i left kept false = IsPathOf at rows i left None
