-- The nested entry toward a path.
use Rattle.std.specs.Prelude.{◌≡◌, ◌≢◌, true}
use Rattle.cv_base.specs.Path.{Path, covers}

-- a path is properly above another
pub record IsAbove (above p : Path) : Type 0 where
  pub covered : covers above p ≡ true
  pub apart : p ≢ above
