-- The order of texts of paths.
use Rattle.std.specs.Prelude.{◌≡◌, ℕ, Bool, true, false, List, [], ◌∷◌}

-- what follows a name in the text of a path: a slash and more where the path goes on, else nothing
abbrev pub Follows : Bool → List ℕ → Type 0
Follows true text = (more : List ℕ) × (text ≡ 47 ∷ more)
Follows false text = text ≡ []
