-- What a line asks. What only this crate's own functions say.
use Rattle.std.specs.Prelude.{ℕ, List}
use Rattle.cv_base.specs.Path.{Path}
use Rattle.cv_shell.specs.Line.{PathIn}

-- they say none
abbrev pub NoPathIn : List ℕ → Type 0
NoPathIn bytes = (path : Path) → PathIn bytes path → ⊥
