-- The parents of rows, by index.
use Rattle.std.specs.Prelude.{◌≡◌, ℕ, List, [], ◌∷◌, ◌++◌, Option, Some, None}
use Rattle.cv_base.specs.Path.{Path, IsPath}

-- a path with one more name, unless that passes a limit
abbrev pub IsBelow : Path → List ℕ → Option Path → Type 0
IsBelow above name None = IsPath (above ++ name ∷ []) → ⊥
IsBelow above name (Some path) = (path ≡ above ++ name ∷ []) × IsPath path
