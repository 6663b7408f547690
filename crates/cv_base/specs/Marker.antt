-- The file that marks the root of a nested catalogue.
use Rattle.std.specs.Prelude.{ℕ, Bool, false, List, [], ◌∷◌, codes}
use Rattle.cv_base.specs.Path.{Path, same_name}

-- a directory that holds a file of this name is the root of a nested catalogue
abbrev pub marker : List ℕ
marker = codes ".cvmfscatalog"

-- the last name of the path is this one
abbrev pub ends_in : List ℕ → Path → Bool
ends_in name [] = false
ends_in name (a ∷ []) = same_name a name
ends_in name (a ∷ b ∷ path) = ends_in name (b ∷ path)
