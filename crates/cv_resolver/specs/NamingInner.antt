-- What catalogues name: the cuts below, and the contents of files. What only this crate's own functions say.
use Rattle.std.specs.Prelude.{List, Contains}
use Rattle.cv_resolver.specs.declared.spot.Level.{Level}

-- each of the levels is among these
abbrev pub AreAmong : List Level → List Level → Type 0
AreAmong known levels = (l : Level) → Contains levels l → Contains known l
