-- What a text says as a path, and which fault it has first. What only this crate's own functions say.
use Rattle.std.specs.Prelude.{ℕ, ◌≡◌, List, [], ◌∷◌, ◌++◌, Ok}
use Rattle.cv_base.specs.Path.{Path, IsPath}
use Rattle.cv_base.specs.PathText.{joined}

-- a path with this name behind its own is one
abbrev pub Joins : Path → List ℕ → Type 0
Joins path name = (joined path name ≡ Ok (path ++ name ∷ [])) × IsPath (path ++ name ∷ [])
