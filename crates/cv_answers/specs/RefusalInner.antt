-- Refusals as JSON. What only this crate's own functions say.
use Rattle.std.specs.Prelude.{◌≡◌, Ok}
use Rattle.cv_base.specs.Digest.{IsDigest}
use Rattle.cv_base.specs.Path.{Path, text_of}
use Rattle.cv_base.specs.PathText.{path_of}
use Rattle.cv_answers.specs.declared.refusal.Refusal.{Refusal}
use Rattle.cv_answers.specs.declared.refusal.Refusal.TheVariants.{Collision, MissingObject, BadCatalogue, PathCollision, CatalogueFull, Damaged}

-- the text of a path says the path
abbrev pub IsSaidByText : Path → Type 0
IsSaidByText path = path_of (text_of path) ≡ Ok path

-- a digest has twenty bytes, and a path is what its text says, as their types have it
abbrev pub IsWholeRefusal : Refusal → Type 0
IsWholeRefusal (Collision id) = IsDigest id.hash
IsWholeRefusal (MissingObject id) = IsDigest id.hash
IsWholeRefusal (BadCatalogue id) = IsDigest id.hash
IsWholeRefusal (PathCollision path second) = IsSaidByText path × IsSaidByText second
IsWholeRefusal (CatalogueFull path) = IsSaidByText path
IsWholeRefusal (Damaged id found) = IsDigest id.hash × IsDigest found
IsWholeRefusal _ = Unit {0}
