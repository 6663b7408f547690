-- What a name leads to from a spot.
use Rattle.std.specs.Prelude.{◌≡◌, Contains}
use Rattle.cv_base.specs.Path.{Path}
use Rattle.cv_resolver.specs.Walk.{Trail}

-- the one trail goes on as the other does: to the same end, and over no place that the other doesn't visit
pub record Continues (whole rest : Trail) : Type 0 where
  pub end : rest.end ≡ whole.end
  pub visits : (p : Path) → Contains rest.visits p → Contains whole.visits p
