-- The walk to a path begins.
use Rattle.std.specs.Prelude.{◌≡◌, ℕ, true, List, [], ◌∷◌, None}
use Rattle.cv_base.specs.Path.{Path}
use Rattle.cv_resolver.specs.Spot.{levels_of}
use Rattle.cv_resolver.specs.declared.start.TheConstants.{LINKS}
use Rattle.cv_resolver.specs.declared.walk.Walk.{Walk}

-- it stands at the root of the repository, whose catalogue has this digest, and may follow 32 links
pub record IsStart (root : List ℕ) (path : Path) (w : Walk) : Type 0 where
  pub at : w.spot.at ≡ []
  pub directory : w.spot.is_directory ≡ true
  pub levels : levels_of w.spot ≡ record { path = []; hash = root; row = None } ∷ []
  pub names : w.names.items ≡ path
  pub links : w.links ≡ LINKS
