-- The attributes of entries: their limits, and those of a new directory.
use Rattle.std.specs.Prelude.{ℕ, ◌<◌, ◌^◌}
use Rattle.cv_base.specs.declared.attr.Attr.{Attr}
use Rattle.cv_base.specs.declared.limits.TheConstants.{DIRECTORY_MODE, MODE_LIMIT}

-- twelve bits of permissions, a time of 64 bits, and owners of 32
pub record IsAttr (attr : Attr) : Type 0 where
  pub mode : attr.mode < MODE_LIMIT
  pub mtime : attr.mtime < 2 ^ 64
  pub uid : attr.uid < 2 ^ 32
  pub gid : attr.gid < 2 ^ 32

-- those of a directory that is made at a moment
abbrev pub new_directory : ℕ → Attr
new_directory now = record { mode = DIRECTORY_MODE; mtime = now; uid = 0; gid = 0 }
