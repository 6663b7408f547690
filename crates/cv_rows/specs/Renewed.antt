-- A nested entry that comes to name another catalogue.
use Rattle.std.specs.Prelude.{ℕ, List, if◌then◌else◌}
use Rattle.cv_base.specs.Path.{Path, same_path}
use Rattle.cv_rows.specs.declared.nested.Nested.{Nested}

-- the entry of the path has this hash and size, and every other stays
abbrev pub renewed : Path → List ℕ → ℕ → Nested → Nested
renewed p hash size n = if same_path n.path p then record { path = n.path; hash = hash; size = size } else n
